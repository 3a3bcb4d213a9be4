use Rattle.std.proofs.Common.{◌≡◌, Bool, true, false, ◌&&◌, sym, subst, ap, refl, rules}
use Rattle.std.proofs.lemmas.Bool.{true≢false}
use Rattle.reg_code.specs.contracts.code.OpPartialEq.TheImpl as op
use Rattle.reg_code.specs.contracts.code.InstrPartialEq.TheImpl.{eq-value}
use Rattle.reg_code.specs.contracts.code.RegPartialEq.TheImpl as reg
use Rattle.reg_code.specs.declared.code.Instr.{Instr}
use Rattle.reg_code.specs.declared.code.Op.{Op}
use Rattle.reg_code.specs.declared.code.Reg.{Reg}
use Rattle.flow_core.proofs.case.same_instr.Goals as goal

-- a test tells whether something holds
abbrev Tells : Bool → Type 0 → Type 0
Tells test P = (test ≡ true → P) × (P → test ≡ true)

both : (p q : Bool) {P Q : Type 0} → Tells p P → Tells q Q → Tells (p && q) (P × Q)
both true true one two = (λ yes. (one.0 refl, two.0 refl), λ both. refl)
both true false one two = (λ no. absurd (true≢false (sym no)), λ both. two.1 both.1)
both false q one two = (λ no. absurd (true≢false (sym no)), λ both. one.1 both.0)

tells_op : (a b : Op) → Tells (op.eq-value.it a b) (a ≡ b)
tells_op a b = search rules

tells_reg : (a b : Reg) → Tells (reg.eq-value.it a b) (a ≡ b)
tells_reg a b = search rules

tells : (a b : Instr) → Tells ((eq-value).it a b) (a ≡ b)
tells a b =
    let parts = both _ _ (tells_op a.op b.op) (both _ _ (tells_reg a.to b.to) (both _ _ (tells_reg a.left b.left) (tells_reg a.right b.right))) in (
      λ yes. let same = parts.0 yes in λ i. record { op = same.0 i; to = same.1.0 i; left = same.1.1.0 i; right = same.1.1.1 i },
      λ same. parts.1 (ap (λ (k : Instr). k.op) same, (ap (λ (k : Instr). k.to) same, (ap (λ (k : Instr). k.left) same, ap (λ (k : Instr). k.right) same))),
    )

pub returns : goal.returns
returns c = subst (λ (r : Bool). Tells r (c.args.this.now ≡ c.args.other.now)) (sym c.eq.ensures) (tells c.args.this.now c.args.other.now)
