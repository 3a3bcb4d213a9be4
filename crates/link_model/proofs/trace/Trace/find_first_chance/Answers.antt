use Rattle.std.proofs.Common.{ℕ, subst, sym, ap, ◌∙◌}
use Rattle.link_model.specs.Chances.{IsFirstChance, chance_number, first_chance}
use Rattle.link_model.proofs.ChanceLemmas.{is_first_chance}
use Rattle.link_model.proofs.trace.Trace.find_first_chance.Goals as goal

pub returns-clause-first : goal.returns-clause-first
returns-clause-first c =
    let times = c.args.self.now in
    let same = c.as_slice.ensures.times in
    let number = ap (λ ts. chance_number ts c.find_first_chance.result) (sym same) ∙ c.find_first_chance.ensures.number ∙ ap (λ ts. first_chance ts c.args.at 0) same in
    subst (λ (k : ℕ). IsFirstChance times c.args.at 0 k) (sym number) (is_first_chance times c.as_slice.ensures.valid c.args.at 0)
