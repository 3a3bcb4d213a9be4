use Rattle.std.proofs.Common.{rules, ◌≡◌, Ok, [], ◌∷◌, ◌++◌, string_bytes, string_cmp, sym, ap, ◌∙◌, subst, append_assoc}
use Rattle.std.specs.List.Sorted.{IsStrictlySortedBy}
use Rattle.std.specs.Map.{keys_of}
use Rattle.serde_json.specs.View.{view, members_view}
use Rattle.scene_members.specs.Traces.{named_trace, traces_from, table_of}
use Rattle.scene_members.proofs.TableLemmas.{Entry, traces_pushed}
use Rattle.scene_members.proofs.traces.traces_from.Goals as goal

pub loop-name-preserved : goal.loop-name-preserved
loop-name-preserved c =
    let l = c.loop-name in
    let done = l.invariant.0 in
    let e : Entry = (c.in-Some.name.now, c.in-Some.value.now) in
    let left = c.next.new.self in
    let step : l.name-iterator ≡ e ∷ left = c.in-Some.ensures.steps in
    let all : c.args.members.now.entries ≡ done ++ e ∷ left = l.invariant.1 ∙ ap (λ es. done ++ es) step in
    let sorted = subst (λ es. IsStrictlySortedBy string_cmp (keys_of es)) all c.iter-name-items.ensures.ordered in
    let named : string_bytes c.in_ok-from_str.field-0 ≡ string_bytes e.0 = search rules in
    let read : named_trace (string_bytes e.0) (view e.1) ≡ Ok c.in_ok-trace.trace =
    ap (λ n. named_trace n (view e.1)) (sym c.as_str.ensures.value) ∙ c.in_ok-trace.ensures in
    let pushed = traces_pushed l.traces.entries done e left c.in_ok-from_str.field-0 c.in_ok-trace.trace c.insert.new.self.entries c.in_ok-insert.ensures.entries named l.invariant.2 sorted read in (
      done ++ e ∷ [],
      all ∙ sym (append_assoc done (e ∷ []) left),
      pushed.0,
      pushed.1 ∙ sym (ap (λ es. traces_from (table_of l.traces.entries) (members_view es)) step) ∙ l.invariant.3,
    )
