-- The number of a declaration, and when two looks are equal.
use Rattle.std.specs.Prelude.{◌≡◌, ℕ, ◌<◌, ◌≤◌, Option, List, length, position}
use Rattle.std.proofs.Common.{ap}
use Rattle.std.proofs.lemmas.List.{take_all}
use Rattle.std.specs.Option.{ForSome}
use Rattle.std.specs.Coded.{le_prop}
use Rattle.std.proofs.Math.Path.{PathP, to_path_p}
use Rattle.ccp_base.specs.Limits.{most_fields}
use Rattle.ccp_base.specs.declared.look.Look.{Look}
use Rattle.portus_core.specs.declared.program.Decl.{Decl}
use Rattle.portus_build.specs.Looks.{has_name, declaration_number}

abbrev IsBelow : Option ℕ → Type 0
IsBelow number = ForSome number (λ n. n < 64)

IsBelow-prop : (number : Option ℕ) → IsProp (IsBelow number)
IsBelow-prop number = hlevel le_prop

same_below : (a b : Option ℕ) (e : a ≡ b) (x : IsBelow a) (y : IsBelow b) → PathP (λ i. IsBelow (e i)) x y
same_below a b e x y = to_path_p (λ i. IsBelow (e i)) (IsBelow-prop b _ y)

-- two looks with the same numbers are equal
pub same_look : (a b : Look) → a.acked ≡ b.acked → a.loss ≡ b.loss → a.timeout ≡ b.timeout → a.rtt ≡ b.rtt → a.inflight ≡ b.inflight → a.cap ≡ b.cap → a.mss ≡ b.mss → a.ecn ≡ b.ecn → a ≡ b
same_look a b acked loss timeout rtt inflight cap mss ecn = λ i. record {
  acked = acked i;
  loss = loss i;
  timeout = timeout i;
  rtt = rtt i;
  inflight = inflight i;
  cap = cap i;
  mss = mss i;
  ecn = ecn i;
  acked_below = same_below a.acked b.acked acked a.acked_below b.acked_below i;
  loss_below = same_below a.loss b.loss loss a.loss_below b.loss_below i;
  timeout_below = same_below a.timeout b.timeout timeout a.timeout_below b.timeout_below i;
  rtt_below = same_below a.rtt b.rtt rtt a.rtt_below b.rtt_below i;
  inflight_below = same_below a.inflight b.inflight inflight a.inflight_below b.inflight_below i;
  cap_below = same_below a.cap b.cap cap a.cap_below b.cap_below i;
  mss_below = same_below a.mss b.mss mss a.mss_below b.mss_below i;
  ecn_below = same_below a.ecn b.ecn ecn a.ecn_below b.ecn_below i;
}

-- a program's declarations are all among these
pub number_of-all : (name : List ℕ) (decls : List Decl) → length decls ≤ most_fields → declaration_number name decls ≡ position (has_name name) decls
number_of-all name decls short = ap (position (has_name name)) (take_all most_fields decls short)
