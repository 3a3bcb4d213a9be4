use Rattle.std.proofs.Common.{◌≡◌, ℕ, ◌+◌, ◌-◌, ◌*◌, ◌≤◌, List, length, replicate, take, drop, refl, sym, ap, ◌∙◌, arith}
use Rattle.std.proofs.lemmas.List.{with_items_is, length-replicate, length-take, length-drop}
use borrow.Rule.Slice.PartMut.{put_mid}
use Rattle.slot_pool.specs.Region.{slot_words_in}
use Rattle.slot_pool.proofs.RegionLemmas.{slots_in_order, words_in-put, words_in-put_other, length-put}
use Rattle.slot_pool.proofs.region.Region.clear.Goals as goal

-- what `fill` leaves is the region with zeros at the slot
pub returns : goal.returns
returns c =
    let region : List ℕ = c.args.self.now.items.items in
    let words : ℕ = c.args.self.now.words in
    let slot : ℕ = c.args.slot in
    let start : ℕ = slot * words in
    let size : length region ≡ c.args.self.now.slots * words = c.args.self.now.whole in
    let order = slots_in_order words slot c.args.self.now.slots c.requires in
    let room : start + words ≤ length region = omega arith in
    let part : ℕ = start + words - start in
    let zeros : List ℕ = replicate words 0 in
    let part_is : part ≡ words = omega arith in
    let value : c.deref_mut.result.now ≡ region = c.deref_mut.ensures.value in
    let filled : length (take part (drop start c.deref_mut.result.now)) ≡ words = rw value (simp (length-take, length-drop) (omega arith)) in
    let written : c.fill.new.self ≡ zeros = c.fill.ensures.after (λ y h. h) ∙ ap (λ n. replicate n 0) filled in
    let put : put_mid start part c.deref_mut.result.now c.fill.new.self ≡ put_mid start words region zeros =
    ap (λ k. put_mid start k c.deref_mut.result.now c.fill.new.self) part_is
    ∙ ap (λ xs. put_mid start words xs c.fill.new.self) value
    ∙ ap (put_mid start words region) written in
    let kept : length (put_mid start part c.deref_mut.result.now c.fill.new.self) ≡ c.args.self.now.items.len =
    ap length put ∙ length-put region start words zeros room (length-replicate words 0) ∙ sym c.args.self.now.items.ok.0 in
    let items = with_items_is c.args.self.now.items (put_mid start part c.deref_mut.result.now c.fill.new.self) kept ∙ put in
    record {
      changed = ap (λ xs. slot_words_in xs words slot) items ∙ words_in-put region words slot zeros room (length-replicate words 0);
      others = λ other apart. ap (λ xs. slot_words_in xs words other) items ∙ words_in-put_other region words slot zeros other room (length-replicate words 0) apart;
      slots = refl;
      words = refl;
    }
