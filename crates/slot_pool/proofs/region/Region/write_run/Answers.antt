use Rattle.std.proofs.Common.{◌≡◌, ℕ, ◌+◌, ◌-◌, ◌*◌, ◌≤◌, List, length, refl, sym, ap, ◌∙◌, arith}
use Rattle.std.proofs.lemmas.List.{with_items_is}
use borrow.Rule.Slice.PartMut.{put_mid}
use Rattle.slot_pool.specs.Region.{slot_words_in}
use Rattle.slot_pool.proofs.RegionLemmas.{slots_in_order, words_in-run, words_in-run_other, length-put}
use Rattle.slot_pool.proofs.region.Region.write_run.Goals as goal

-- what `copy_from_slice` leaves is the region with the run at its place
pub returns : goal.returns
returns c =
    let region : List ℕ = c.args.self.now.items.items in
    let words : ℕ = c.args.self.now.words in
    let slot : ℕ = c.args.slot in
    let at : ℕ = c.args.at in
    let run : List ℕ = c.args.run.now in
    let start : ℕ = slot * words + at in
    let size : length region ≡ c.args.self.now.slots * words = c.args.self.now.whole in
    let order = slots_in_order words slot c.args.self.now.slots c.requires.slot_in in
    let fits : at + length run ≤ words = c.requires.run_in in
    let slot_fits : slot * words + words ≤ length region = omega arith in
    let room : start + length run ≤ length region = omega arith in
    let part : ℕ = start + length run - start in
    let part_is : part ≡ length run = omega arith in
    let value : c.deref_mut.result.now ≡ region = c.deref_mut.ensures.value in
    let written : c.copy_from_slice.new.self ≡ run = c.copy_from_slice.ensures.after in
    let put : put_mid start part c.deref_mut.result.now c.copy_from_slice.new.self ≡ put_mid start (length run) region run =
    ap (λ k. put_mid start k c.deref_mut.result.now c.copy_from_slice.new.self) part_is
    ∙ ap (λ xs. put_mid start (length run) xs c.copy_from_slice.new.self) value
    ∙ ap (put_mid start (length run) region) written in
    let kept : length (put_mid start part c.deref_mut.result.now c.copy_from_slice.new.self) ≡ c.args.self.now.items.len =
    ap length put ∙ length-put region start (length run) run room refl ∙ sym c.args.self.now.items.ok.0 in
    let items = with_items_is c.args.self.now.items (put_mid start part c.deref_mut.result.now c.copy_from_slice.new.self) kept ∙ put in
    record {
      changed = ap (λ xs. slot_words_in xs words slot) items ∙ words_in-run region words slot at run slot_fits fits;
      others = λ other apart. ap (λ xs. slot_words_in xs words other) items ∙ words_in-run_other region words slot at run other slot_fits fits apart;
      slots = refl;
      words = refl;
    }
