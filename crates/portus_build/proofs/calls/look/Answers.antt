use Rattle.portus_core.specs.ProgramForm.{form_of}
use Rattle.portus_build.specs.Looks.{look_of}
use Rattle.portus_build.proofs.LookLemmas.{same_look}
use Rattle.portus_build.proofs.calls.look.Goals as goal

pub returns : goal.returns
returns c =
    same_look _ (look_of (form_of c.args.program.now)) c.field_number.ensures.number c.field_number-2.ensures.number
    c.field_number-3.ensures.number c.field_number-4.ensures.number c.field_number-5.ensures.number
    c.control_number.ensures.number c.control_number-2.ensures.number c.field_number-6.ensures.number
