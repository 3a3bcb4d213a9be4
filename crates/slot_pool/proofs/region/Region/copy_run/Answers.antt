use Rattle.std.proofs.Common.{◌≡◌, ℕ, ◌+◌, ◌*◌, ◌≤◌, List, length, take, drop, length-drop, refl, sym, ap, ◌∙◌, arith}
use Rattle.std.proofs.lemmas.List.{length-take-le, take-take}
use borrow.Rule.Slice.PartMut.{put_mid}
use Rattle.slot_pool.specs.Pool.{with_run}
use Rattle.slot_pool.specs.Region.{slot_words_in}
use Rattle.slot_pool.proofs.RegionLemmas.{slots_in_order, words_in-run, words_in-run_other, copied-put}
use Rattle.slot_pool.proofs.region.Region.copy_run.Goals as goal

-- what `copy_within` leaves is the region with the run at its place
pub returns : goal.returns
returns c =
    let region : List ℕ = c.args.self.now.items.items in
    let words : ℕ = c.args.self.now.words in
    let slot : ℕ = c.args.slot in
    let at : ℕ = c.args.at in
    let count : ℕ = c.args.count in
    let source : ℕ = c.args.from * words in
    let start : ℕ = slot * words + at in
    let run : List ℕ = take count (drop source region) in
    let size : length region ≡ c.args.self.now.slots * words = c.args.self.now.whole in
    let order = slots_in_order words slot c.args.self.now.slots c.requires.slot_in in
    let source_order = slots_in_order words c.args.from c.args.self.now.slots c.requires.from_in in
    let fits : at + count ≤ words = c.requires.run_in in
    let few : count ≤ words = omega arith in
    let slot_fits : slot * words + words ≤ length region = omega arith in
    let long : length run ≡ count = length-take-le count (drop source region) (omega (arith, length-drop source region)) in
    let run_fits : at + length run ≤ words = omega (arith, long) in
    let front : run ≡ take count (slot_words_in region words c.args.from) = sym (take-take count words (drop source region) few) in
    let items : c.copy_within.new.self.items ≡ put_mid start (length run) region run =
    c.copy_within.ensures.items ∙ copied-put region source count start ∙ ap (λ n. put_mid start n region run) (sym long) in
    record {
      changed =
          ap (λ xs. slot_words_in xs words slot) items
          ∙ words_in-run region words slot at run slot_fits run_fits
          ∙ ap (with_run (slot_words_in region words slot) at) front;
      others = λ other apart. ap (λ xs. slot_words_in xs words other) items ∙ words_in-run_other region words slot at run other slot_fits run_fits apart;
      slots = refl;
      words = refl;
    }
