-- What the code's settings are in the definition of the walk.
use Rattle.spv_typing.specs.StatementWalk as spec
use Rattle.spv_environments.specs.Scopes.{scope_of}
use Rattle.spv_statement_typing.specs.declared.setting.Setting.{Setting}

abbrev pub setting_of : Setting → spec.Setting
setting_of s = record { inside = scope_of s.inside; noted = scope_of s.noted; counted = s.counted.now }
