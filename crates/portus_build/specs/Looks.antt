-- Where a program keeps what agents read and write.
use Rattle.std.specs.Prelude.{◌≡◌, ℕ, ◌<◌, ◌≤◌, Bool, nat_lt, cond, Option, Some, None, List, length, take, position, codes}
use Rattle.std.specs.Option.{ForSome}
use Rattle.std.specs.Str.{bytes_eq}
use Rattle.std.specs.List.{position_or_len}
use Rattle.std.proofs.Common.{arith}
use Rattle.std.proofs.lemmas.List.{length-take}
use Rattle.std.proofs.lemmas.Bool.Decides.{nat_tests}
use Rattle.ccp_base.specs.Limits.{most_fields}
use Rattle.ccp_base.specs.declared.look.Look.{Look}
use Rattle.portus_core.specs.declared.program.Decl.{Decl}
use Rattle.portus_core.specs.Programs.{Form}

abbrev pub has_name : List ℕ → Decl → Bool
has_name name decl = bytes_eq decl.name name

-- the number of the declaration with this name, counted from 0; a program declares no more fields, and no
-- more control variables, than these
abbrev pub declaration_number : List ℕ → List Decl → Option ℕ
declaration_number name decls = position (has_name name) (take most_fields decls)

below_where : (n m limit x : ℕ) → m ≤ limit → cond (nat_lt n m) (Some n) None ≡ Some x → x < limit
below_where n m limit x short found = grind (arith, nat_tests)

below_limit : (name : List ℕ) (decls : List Decl) (limit : ℕ)
    → length (take most_fields decls) ≤ limit → ForSome (declaration_number name decls) (λ n. n < limit)
below_limit name decls limit short = λ x found.
    below_where (position_or_len (has_name name) (take most_fields decls)) (length (take most_fields decls)) limit x
    short found

pub number_of-below : (name : List ℕ) (decls : List Decl)
    → ForSome (declaration_number name decls) (λ n. n < most_fields)
number_of-below name decls = below_limit name decls most_fields (omega (arith, length-take most_fields decls))

-- the numbers of the fields and control variables with the names that agents know
abbrev pub look_of : Form → Look
look_of form = record {
  acked = declaration_number (codes "acked") form.fields;
  loss = declaration_number (codes "loss") form.fields;
  timeout = declaration_number (codes "timeout") form.fields;
  rtt = declaration_number (codes "rtt") form.fields;
  inflight = declaration_number (codes "inflight") form.fields;
  cap = declaration_number (codes "cap") form.controls;
  mss = declaration_number (codes "mss") form.controls;
  ecn = declaration_number (codes "ecn") form.fields;
  acked_below = number_of-below (codes "acked") form.fields;
  loss_below = number_of-below (codes "loss") form.fields;
  timeout_below = number_of-below (codes "timeout") form.fields;
  rtt_below = number_of-below (codes "rtt") form.fields;
  inflight_below = number_of-below (codes "inflight") form.fields;
  cap_below = number_of-below (codes "cap") form.controls;
  mss_below = number_of-below (codes "mss") form.controls;
  ecn_below = number_of-below (codes "ecn") form.fields;
}
