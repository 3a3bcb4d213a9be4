-- The entries of a flow, by their steps.
use Rattle.std.specs.Prelude.{◌≡◌, ℕ, ◌+◌, Option, Some, None, List, [], ◌∷◌, ⊤, slice_get}
use Rattle.ccp_base.specs.declared.place.Place.{Place}
use Rattle.reg_compiler.specs.declared.built.Built.{Built}
use Rattle.open_flow.specs.declared.entry.Entry.{Entry}
use Rattle.open_flow.specs.OpenWorld.{Installed}
use Rattle.open_flow.specs.BuiltTexts.{form_or_refusal, built_of}

-- the program of an entry, or the refusal
abbrev pub installed_of : Entry → Installed
installed_of entry = form_or_refusal entry.answer

abbrev pub built_entry : Option Entry → Option Built
built_entry None = None
built_entry (Some entry) = built_of entry.answer

-- what was built of a step; None if its entry isn't there or was refused
abbrev pub built_at : List Entry → ℕ → Option Built
built_at entries step = built_entry (slice_get entries step)

abbrev pub entry_place : Option Built → ℕ → Option Place
entry_place None index = None
entry_place (Some built) index = slice_get built.places index

-- the place of an instruction of a step's code
abbrev pub step_place : List Entry → ℕ → ℕ → Option Place
step_place entries step index = entry_place (built_at entries step) index

-- the entries are those of the steps from this one on, in order
abbrev pub AreStepsFrom : ℕ → List Entry → Type 0
AreStepsFrom step [] = ⊤
AreStepsFrom step (entry ∷ rest) = (entry.step ≡ step) × AreStepsFrom (step + 1) rest
