use Rattle.spv_frame_law.proofs.Views.{view_stays, put_shows, body_shown, statement_shows}
use Rattle.spv_frame_law.proofs.laws.law_view.Goals as goal

pub returns-clause-others : goal.returns-clause-others
returns-clause-others c = view_stays

pub returns-clause-put : goal.returns-clause-put
returns-clause-put c = put_shows

pub returns-clause-bodies : goal.returns-clause-bodies
returns-clause-bodies c = body_shown

pub returns-clause-statements : goal.returns-clause-statements
returns-clause-statements c = statement_shows
