-- The text of the frames that install programs: for each its number and the hexadecimal digits of its frame.
use Rattle.std.specs.Prelude.{ℕ, nat_lt, if◌then◌else◌, List, [], ◌∷◌, length, codes, decimal}
use Rattle.hex.specs.Hex.{encode_lower}
use Rattle.ccp_base.specs.Limits.{most_short_fields}
use Rattle.ccp_base.specs.Text.{◌⧺◌}
use Rattle.reply_frames.specs.declared.outline.Version.{Version}
use Rattle.reply_frames.specs.declared.outline.Version.TheVariants.{One, Two}
use Rattle.ccp_messages.specs.declared.message.Message.TheVariants.{Install}
use Rattle.ccp_messages.specs.Messages.{frame_bytes}
use Rattle.portus_core.specs.ProgramForm.{form_of}
use Rattle.reg_compiler.specs.declared.built.Built.{Built}

-- version 1 for at most 32 fields, and version 2 for more
abbrev pub version_for : ℕ → Version
version_for fields = if nat_lt most_short_fields fields then Two else One

-- the Install of a program, for flow 0
abbrev pub install_frame : ℕ → Built → List ℕ
install_frame number built =
    frame_bytes (version_for (length (form_of built.program).fields)) (Install 0 number built.code.code)

abbrev pub install_head : ℕ → List ℕ
install_head number = codes "install " ⧺ decimal number ⧺ codes " "

abbrev pub hex_line : List ℕ → List ℕ
hex_line bytes = encode_lower bytes ⧺ codes "\n"

abbrev pub install_line : ℕ → Built → List ℕ
install_line number built = install_head number ⧺ hex_line (install_frame number built)

-- the programs in their order
abbrev pub wire_text : List (ℕ × Built) → List ℕ
wire_text [] = []
wire_text (program ∷ rest) = install_line program.0 program.1 ⧺ wire_text rest
