use Rattle.std.proofs.Common.{ℕ, ◌+◌, ◌-◌, ◌≤◌, ◌++◌, length, take, ap, refl, ◌∙◌, arith}
use Rattle.std.proofs.lemmas.List.{length-take-le}
use Rattle.feed_core.proofs.RestLemmas.{between-piece}
use Rattle.feed_core.proofs.rest.Rest.read.Goals as goal

pub returns-in-Ok-2-clause-came : goal.returns-in-Ok-2-clause-came
returns-in-Ok-2-clause-came g c =
    let at : ℕ = c.self.inside.end - c.self.inside.start in
    let asked : ℕ = c.min-asked.result in
    let out = c.read.new.out in
    let count = c.in-Ok.field-0 in
    let fits : count ≤ length out = omega (arith, c.in-Ok.ensures.within) in
    let few : count ≤ asked = omega (arith, c.in-Ok.ensures.within) in
    let least : asked ≤ c.max.result = omega arith in
    record {
      piece = take count out;
      taken = c.in-Ok.ensures.taken;
      long = length-take-le count out fits;
      some = omega (arith, c.in-Ok.field-0-test);
      within = omega (arith, few, least);
      added = between-piece c.settle.new.bytes out 0 at (at + asked - at) count refl (omega arith) fits
          ∙ ap (λ xs. xs ++ take count out) (c.settle.ensures ∙ c.self.view_is);
    }
