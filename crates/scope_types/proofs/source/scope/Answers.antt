use Rattle.std.proofs.Common.{ap}
use Rattle.portus_core.specs.Trees.{nodes_of}
use Rattle.portus_core.specs.ProgramForm.{form_of}
use Rattle.scope_types.proofs.Agreement.{found_over, only_over}
use Rattle.scope_types.proofs.Settled.{IsSettled-always}
use Rattle.scope_types.proofs.source.scope.Goals as goal

pub returns-clause-found : goal.returns-clause-found
returns-clause-found c =
    found_over c.scope_forms.result form_of
    (nodes_of c.as_slice.result.now) (nodes_of c.args.source.forms.items) (ap nodes_of c.as_slice.ensures.value) c.scope_forms.ensures.ok

pub returns-clause-only : goal.returns-clause-only
returns-clause-only c =
    only_over c.scope_forms.result form_of
    (nodes_of c.as_slice.result.now) (nodes_of c.args.source.forms.items) (ap nodes_of c.as_slice.ensures.value) c.scope_forms.ensures.ok
    c.scope_forms.ensures.err

pub returns-clause-settled : goal.returns-clause-settled
returns-clause-settled c = IsSettled-always (nodes_of c.args.source.forms.items)
