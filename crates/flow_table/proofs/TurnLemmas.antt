-- Which letter may come, by what a cell answers, and that it brings the flow nearer to the end of its word.
use Rattle.std.specs.Prelude.{◌≡◌, ◌≢◌, ℕ, ◌<◌, Bool, true, false, not, is_some, is_none, ◌&&◌, Option, Some, None, [], ◌∷◌, ◌++◌, length, refl}
use Rattle.std.proofs.Common.{arith, ap, sym, ◌∙◌}
use Rattle.agent_core.specs.declared.ticket.Ticket.{Ticket}
use Rattle.flow_core.specs.declared.letter.Letter.{Letter}
use Rattle.flow_core.specs.World.{Taken, World, after_ack, after_take, after_answer}
use Rattle.flow_core.specs.Words.{can_take, is_still}
use Rattle.flow_core.specs.Books.{ticket_of}
use Rattle.flow_core.specs.Cells.{CellState, flow_at, world_at, ack_at, out_at, with_letter}
use Rattle.flow_core.specs.LettersLeft.{letters_left, left_at}
use Rattle.flow_table.specs.NextLetter.{IsNearer, next_letter, next_at}
use Rattle.flow_core.proofs.LeftLemmas.{left-ack, left-take, left-answer}
use Rattle.flow_core.proofs.MappedLemmas.{some-mapped, none-mapped}

-- ---- the ticket that is out

some-out : (cell : CellState) (ticket : Ticket) → out_at cell ≡ Some ticket → is_some (world_at cell).out ≡ true
some-out cell ticket out =
    let w = world_at cell in
    some-mapped (λ (taken : Taken ℕ). ticket_of (flow_at cell) w taken.told) w.out ∙ ap is_some out

none-out : (cell : CellState) → out_at cell ≡ None → is_none (world_at cell).out ≡ true
none-out cell none =
    let w = world_at cell in
    none-mapped (λ (taken : Taken ℕ). ticket_of (flow_at cell) w taken.told) w.out ∙ ap is_none none

-- something can be taken if no ticket is out and the flow isn't still
pub may-take : (none can : Bool) → none ≡ true → (none && not can) ≢ true → (none && can) ≡ true
may-take true true is left = refl
may-take true false is left = absurd (left refl)
may-take false can is left = absurd (let wrong : false ≡ true = is in (cc))

-- no ticket is out and the flow isn't still: something can be taken
pub may-be-taken : (cell : CellState) → out_at cell ≡ None → is_still (world_at cell) ≢ true
    → (is_none (world_at cell).out && can_take (world_at cell)) ≡ true
may-be-taken cell none not_still =
    let w = world_at cell in
    may-take (is_none w.out) (can_take w) (none-out cell none) not_still

-- ---- which letter comes next

next-C : {X : Type 0} → (out : Option X) (can : Bool) → is_some out ≡ true → next_letter (is_some out) can ≡ Letter.C
next-C None can is = absurd (let wrong : false ≡ true = is in (cc))
next-C (Some ticket) can is = refl

next-T : {X : Type 0} → (out : Option X) (can : Bool) → (is_none out && can) ≡ true → next_letter (is_some out) can ≡ Letter.T
next-T None true may = refl
next-T None false may = absurd (let wrong : false ≡ true = may in (cc))
next-T (Some ticket) can may = absurd (let wrong : false ≡ true = may in (cc))

next-A : {X : Type 0} → (out : Option X) (can : Bool) → is_none out ≡ true → can ≡ false → next_letter (is_some out) can ≡ Letter.A
next-A None false none is = refl
next-A None true none is = absurd (let wrong : true ≡ false = is in (cc))
next-A (Some ticket) can none is = absurd (let wrong : false ≡ true = none in (cc))

made : (old new : CellState) (letter : Letter) → next_at old ≡ letter → new ≡ with_letter letter old → new ≡ with_letter (next_at old) old
made old new letter next grown = grown ∙ ap (λ (l : Letter). with_letter l old) (sym next)

module _ (old new : CellState) where
  pub made-C : new ≡ with_letter Letter.C old → (ticket : Ticket) → out_at old ≡ Some ticket → new ≡ with_letter (next_at old) old
  made-C grown ticket out =
      let w = world_at old in
      made old new Letter.C (next-C w.out (can_take w) (some-out old ticket out)) grown

  pub made-T : new ≡ with_letter Letter.T old → (is_none (world_at old).out && can_take (world_at old)) ≡ true → new ≡ with_letter (next_at old) old
  made-T grown may = made old new Letter.T (next-T (world_at old).out (can_take (world_at old)) may) grown

  pub made-A : new ≡ with_letter Letter.A old → (out_at old ≡ None) × (can_take (world_at old) ≡ false) → new ≡ with_letter (next_at old) old
  made-A grown still =
      let w = world_at old in
      made old new Letter.A (next-A w.out (can_take w) (none-out old still.0) still.1) grown

-- ---- a letter

pub nearer : (old new : CellState) (letter : Letter) (w : World ℕ) → new ≡ record old { word = old.word ++ letter ∷ [] } → world_at new ≡ w
    → letters_left (flow_at old) w < left_at old → IsNearer old new
nearer old new letter w grown world less =
    let same : left_at new ≡ letters_left (flow_at old) w = λ i. letters_left (flow_at (grown i)) (world i) in
    record { case = ap (λ (cell : CellState). cell.case) grown; fewer = omega (arith, same, less) }

module _ (old new : CellState) where
  pub nearer-A : new ≡ record old { word = old.word ++ Letter.A ∷ [] } → world_at new ≡ after_ack (flow_at old) (ack_at old) (world_at old)
      → length (world_at old).acks < old.case.acks → IsNearer old new
  nearer-A grown world more =
      nearer old new Letter.A (after_ack (flow_at old) (ack_at old) (world_at old)) grown world (left-ack (flow_at old) (ack_at old) (world_at old) more)

  pub nearer-T : new ≡ record old { word = old.word ++ Letter.T ∷ [] } → world_at new ≡ after_take (world_at old)
      → (is_none (world_at old).out && can_take (world_at old)) ≡ true → IsNearer old new
  nearer-T grown world may =
      nearer old new Letter.T (after_take (world_at old)) grown world (left-take (flow_at old) (world_at old) may)

  pub nearer-C : new ≡ record old { word = old.word ++ Letter.C ∷ [] } → world_at new ≡ after_answer (flow_at old) (world_at old)
      → (ticket : Ticket) → out_at old ≡ Some ticket → IsNearer old new
  nearer-C grown world ticket out =
      nearer old new Letter.C (after_answer (flow_at old) (world_at old)) grown world
      (left-answer (flow_at old) (world_at old) (some-out old ticket out))
