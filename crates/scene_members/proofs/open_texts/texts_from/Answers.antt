use Rattle.std.proofs.Common.{rules, ◌≡◌, Ok, [], ◌∷◌, ◌++◌, string_bytes, sym, ap, ◌∙◌}
use Rattle.serde_json.specs.View.{view, members_view}
use Rattle.scene_members.specs.declared.key.Key.TheVariants as key
use Rattle.scene_members.specs.declared.open_texts.OpenText.{OpenText}
use Rattle.scene_members.specs.NamedMembers.{named_text}
use Rattle.scene_members.specs.Rollout.{texts_from}
use Rattle.scene_members.specs.OpenCases.{texts_of}
use Rattle.scene_members.proofs.TableLemmas.{Entry}
use Rattle.scene_members.proofs.OpenLemmas.{texts_pushed}
use Rattle.scene_members.proofs.open_texts.texts_from.Goals as goal

pub loop-name-preserved : goal.loop-name-preserved
loop-name-preserved c =
    let l = c.loop-name in
    let e : Entry = (c.in-Some.name.now, c.in-Some.value.now) in
    let left = c.next.new.self in
    let k = string_bytes e.0 in
    let one : OpenText = record { name = c.in_ok-named.named.name; text = c.in_ok-text.text } in
    let step : l.name-iterator ≡ e ∷ left = c.in-Some.ensures.steps in
    let named : one.name ≡ k = search rules in
    let read : named_text key.Programs k (view e.1) ≡ Ok one.text = search rules in
    let pushed : c.push.new.self ≡ l.texts ++ one ∷ [] = search rules in
    ap (λ ts. texts_from (texts_of ts) (members_view left)) pushed
    ∙ texts_pushed l.texts one k (view e.1) (members_view left) named read
    ∙ sym (ap (λ es. texts_from (texts_of l.texts) (members_view es)) step) ∙ l.invariant
