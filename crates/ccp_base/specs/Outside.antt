-- What calls of streams do to the bytes that are left or written, and to their counts of faults.
use Rattle.std.specs.Prelude.{◌≡◌, ℕ, ◌-◌, ◌^◌, ◌<◌, ◌≤◌, Option, Some, None, is_some, option_map, List, [], ◌++◌, length, take}
use Rattle.std.proofs.Common.{ap, ◌∙◌, sym, append_assoc}
use Rattle.ccp_base.specs.declared.outside.NoMemory.{NoMemory}

-- out of memory, the one value of its type
abbrev pub no_memory : NoMemory
no_memory = record { 0 = tt }

-- the bytes that a source has left or that were written to a sink, if they are known
abbrev pub Known : Type 0
Known = Option (List ℕ)

-- all these values know their bytes, or none does
abbrev pub IsKnownByType : {X : Type 0} → (X → Known) → Type 0
IsKnownByType {X = X} known = (x y : X) → is_some (known x) ≡ is_some (known y)

-- a count of faults rose; at its greatest value it can't, and counts as risen
abbrev pub Rose : ℕ → ℕ → Type 0
Rose before now = before < 2 ^ 64 - 1 → before < now

-- these bytes were taken from the front of what was left
abbrev pub Takes : Known → Known → List ℕ → Type 0
Takes old new taken = old ≡ option_map (λ left. taken ++ left) new

-- nothing is left
abbrev pub IsAtEnd : Known → Type 0
IsAtEnd left = left ≡ option_map (λ bytes. []) left

-- more bytes than the limit were taken
pub record TakesOver (limit : ℕ) (old new : Known) : Type 0 where
  pub taken : List ℕ
  pub takes : Takes old new taken
  pub over : limit < length taken

-- at most as many bytes as the limit were taken
pub record TakesWithin (limit : ℕ) (old new : Known) : Type 0 where
  pub taken : List ℕ
  pub takes : Takes old new taken
  pub within : length taken ≤ limit

-- these bytes were put at the end of what was written
abbrev pub Appends : Known → Known → List ℕ → Type 0
Appends old new bytes = new ≡ option_map (λ written. written ++ bytes) old

-- a front of these bytes was put at the end of what was written
pub record AppendsPrefix (old new : Known) (bytes : List ℕ) : Type 0 where
  pub count : ℕ
  pub within : count ≤ length bytes
  pub appends : Appends old new (take count bytes)

-- two pieces taken one after the other are taken as one
pub Takes-append : (old middle new : Known) (first next : List ℕ)
    → Takes old middle first → Takes middle new next → Takes old new (first ++ next)
Takes-append old middle None first next before after = cc
Takes-append old middle (Some left) first next before after =
    before ∙ ap (option_map (λ bytes. first ++ bytes)) after ∙ ap Some (sym (append_assoc first next left))

-- two pieces appended one after the other are appended as one
pub Appends-append : (old middle new : Known) (first next : List ℕ)
    → Appends old middle first → Appends middle new next → Appends old new (first ++ next)
Appends-append None middle new first next before after = cc
Appends-append (Some written) middle new first next before after =
    after ∙ ap (option_map (λ bytes. bytes ++ next)) before ∙ ap Some (append_assoc written first next)
