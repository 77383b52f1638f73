use Rattle.std.proofs.Common.{ap, suc, pos}
use Rattle.spv_logic.specs.Values.{Truth, members_of, rows_in, default_in}
use Rattle.spv_logic.proofs.Members.{with_cell-has}
use Rattle.spv_logic.proofs.Changes.{differs, pos_differs, put_other, array_same, class_same}
use Rattle.spv_logic.proofs.laws.law_structures.Goals as goal

pub returns-clause-extend_adds_its_pointer : goal.returns-clause-extend_adds_its_pointer
returns-clause-extend_adds_its_pointer c cells w p symbols v = ap Truth (with_cell-has (members_of cells) (suc p))

pub returns-clause-stored_element : goal.returns-clause-stored_element
returns-clause-stored_element c shapes s e g a w h i symbols v = array_same shapes s e a w i g h

pub returns-clause-other_elements : goal.returns-clause-other_elements
returns-clause-other_elements c a w i j h symbols v = put_other (rows_in a) i j w (default_in a) (differs j i h)

pub returns-clause-content_after_set_cell : goal.returns-clause-content_after_set_cell
returns-clause-content_after_set_cell c shapes s e g cells w h p symbols v =
    class_same shapes s e cells w (pos p) g h

pub returns-clause-content_after_extend : goal.returns-clause-content_after_extend
returns-clause-content_after_extend c shapes s e g cells w h p symbols v = class_same shapes s e cells w (pos p) g h

pub returns-clause-other_contents_after_set_cell : goal.returns-clause-other_contents_after_set_cell
returns-clause-other_contents_after_set_cell c cells w p q h symbols v =
    put_other (rows_in cells) (pos p) (pos q) w (default_in cells) (differs (pos q) (pos p) (pos_differs q p h))

pub returns-clause-other_contents_after_extend : goal.returns-clause-other_contents_after_extend
returns-clause-other_contents_after_extend c cells w p q h symbols v =
    put_other (rows_in cells) (pos p) (pos q) w (default_in cells) (differs (pos q) (pos p) (pos_differs q p h))
