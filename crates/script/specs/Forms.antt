-- The words of the forms of a shape.
use Rattle.std.specs.Prelude.{ℕ, List, codes}
use Rattle.script.specs.declared.form.Form.{Form}
use Rattle.script.specs.declared.form.Form.TheVariants.{Shape, Swapped, Table}

abbrev pub form_word : Form → List ℕ
form_word Shape = codes "shape"
form_word Swapped = codes "swapped"
form_word Table = codes "table"
