-- The text of a checked program: its summary, and the listing of its code.
use Rattle.std.specs.Prelude.{ℕ, List, length, codes, decimal}
use Rattle.portus_core.specs.Programs.{Form}
use Rattle.reg_code.specs.declared.code.Code.{Code}
use Rattle.reg_code.specs.ListingText.{listing_text}
use Rattle.reg_compiler.specs.Needs.{form_need}
use Rattle.reg_compiler.specs.Counts.{form_count}
use Rattle.ccp_base.specs.Text.{◌⧺◌}

-- the summary of a program: how much it declares, its greatest need of temporaries, and its count of instructions
abbrev pub summary_line : Form → List ℕ
summary_line form =
    codes "ok blocks=" ⧺ decimal (length form.blocks) ⧺ codes " fields=" ⧺ decimal (length form.fields)
    ⧺ codes " controls=" ⧺ decimal (length form.controls) ⧺ codes " need=" ⧺ decimal (form_need form)
    ⧺ codes " count=" ⧺ decimal (form_count form) ⧺ codes "\n"

abbrev pub check_text : Form → Code → List ℕ
check_text form code = summary_line form ⧺ listing_text code
