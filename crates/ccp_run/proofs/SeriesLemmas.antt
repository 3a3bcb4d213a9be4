-- The books of flows over their cases' codes have the text of the flows' parts, read over the sources of the programs.
use Rattle.std.proofs.Common.{◌≡◌, ◌∙◌, ◌≤◌, ℕ, suc, ◌+◌, nat_le, Option, Result, Ok, Err, List, [], ◌∷◌, ◌++◌, length, map, append_assoc, length-append, leb-true, ap, sym, subst, refl, arith}
use Rattle.std.specs.Prelude.{IfOk}
use Rattle.std.proofs.lemmas.Bool.{and_parts}
use Rattle.std.proofs.lemmas.Result.{IfOk-at_ok}
use Rattle.std.specs.List.{All}
use Rattle.ccp_base.specs.declared.ack.Ack.{Ack}
use Rattle.ccp_base.specs.declared.place.Place.{Place}
use Rattle.ccp_base.specs.Text.{◌⧺◌}
use Rattle.portus_core.specs.Programs.{Form}
use Rattle.reg_compiler.specs.declared.built.Built.{Built}
use Rattle.reg_compiler.specs.Simulation.{Simulates}
use Rattle.reg_compiler.specs.Sources.{sources_of}
use Rattle.flow_core.specs.declared.book.Book.{Book}
use Rattle.flow_core.specs.declared.book.Given.{Given}
use Rattle.flow_core.specs.declared.case.Case.{Case}
use Rattle.flow_core.specs.declared.letter.Letter.{Letter}
use Rattle.flow_core.specs.declared.letter.Letter.TheVariants.{A, T, C}
use Rattle.flow_core.specs.Books.{IsBookOf}
use Rattle.flow_core.specs.Cores.{CoreState}
use Rattle.flow_core.specs.Lift.{map_world}
use Rattle.flow_core.specs.LiveText.{source_at, flow_from, flow_part}
use Rattle.flow_core.specs.Readings.{Flow, over_codes}
use Rattle.flow_core.specs.Words.{acks_in, from_list, legal_from, with_given, world_from, world_over}
use Rattle.flow_core.specs.World.{World, after_ack, after_take, after_answer, opening, track_of}
use Rattle.flow_core.proofs.LiftLemmas.{lift, track-placed}
use Rattle.flow_core.proofs.WordLemmas.{answer-keeps, next-given, take-keeps}
use Rattle.campaign_report.specs.BookText.{book_text, books_text, program_places}
use Rattle.campaign_report.specs.BooksRead.{IsBookReadAs, read_flow}
use Rattle.campaign_report.proofs.BookLemmas.{book-part-as}
use Rattle.scenario_json.specs.Cases.{IsCoded, AreNumberedFrom}
use Rattle.shared_run.specs.SharedBooks.{IsGivenOf, AreGivensOf}
use Rattle.run_ending.specs.declared.outcome.ModeOutput.{ModeOutput}
use Rattle.ccp_run.specs.SharedSeries.{core_part, core_parts}
use Rattle.ccp_run.proofs.CodedLemmas.{simulated}
use Rattle.ccp_run.proofs.LiveLemmas.{place, read_as}
use Rattle.ccp_run.proofs.SharedLemmas.{case_of}

-- ---- how many acknowledgements a flow has

-- a word takes as many acknowledgements of a list as it has letters for them
module _ {X : Type 0} (flow : Flow X) (acks : List Ack) where
  acks-counted : (word : List Letter) (w : World X) (rest : List Ack) → acks ≡ w.acks ++ rest → acks_in word ≤ length rest
      → length (world_from flow (from_list acks) w word).acks ≡ length w.acks + acks_in word
  acks-counted [] w rest split enough = omega arith
  acks-counted (A ∷ word) w [] split enough = absurd (omega (arith, enough))
  acks-counted (A ∷ word) w (ack ∷ rest) split enough =
      let more : acks ≡ (w.acks ++ ack ∷ []) ++ rest = split ∙ sym (append_assoc w.acks (ack ∷ []) rest) in
      let after = acks-counted word (after_ack flow ack w) rest more (omega (arith, enough)) in
      subst (λ (given : Option Ack). length (world_from flow (from_list acks) (with_given flow given w) word).acks ≡ length w.acks + (acks_in word + 1))
      (sym (next-given flow acks w ack rest split)) (omega (arith, after, length-append w.acks (ack ∷ [])))
  acks-counted (T ∷ word) w rest split enough =
      let same = (take-keeps flow w).acks in
      acks-counted word (after_take w) rest (split ∙ ap (λ (xs : List Ack). xs ++ rest) (sym same)) enough
      ∙ ap (λ (xs : List Ack). length xs + acks_in word) same
  acks-counted (C ∷ word) w rest split enough =
      let same = (answer-keeps flow w).acks in
      acks-counted word (after_answer flow w) rest (split ∙ ap (λ (xs : List Ack). xs ++ rest) (sym same)) enough
      ∙ ap (λ (xs : List Ack). length xs + acks_in word) same

  length-over : (word : List Letter) → acks_in word ≤ length acks → acks_in word ≡ length (world_over flow acks word).acks
  length-over word enough = let all = acks-counted word (opening flow) acks refl enough in omega (arith, all)

-- ---- one flow

module _ (programs : List (ℕ × Built)) (numbered : AreNumberedFrom 0 programs) where
  module _ (core : CoreState) (given : Given) (is : IsGivenOf core given) (coded : IsCoded programs core.case) where
    abbrev book : Book
    book = given.book

    abbrev case : Case
    case = given.book.case

    coded_book : IsCoded programs case
    coded_book = subst (λ (c : Case). IsCoded programs c) (sym is.case) coded

    abbrev ss : Form
    ss = source_at (sources_of programs) case.ss.role.number

    abbrev ca : Form
    ca = source_at (sources_of programs) case.ca.role.number

    abbrev ss_places : List Place
    ss_places = program_places programs case.ss.role.number

    abbrev ca_places : List Place
    ca_places = program_places programs case.ca.role.number

    ss_simulates : Simulates ss case.ss.code.code ss_places
    ss_simulates = simulated programs numbered case.ss.role.number case.ss coded_book.ss

    ca_simulates : Simulates ca case.ca.code.code ca_places
    ca_simulates = simulated programs numbered case.ca.role.number case.ca coded_book.ca

    -- the flow's state over the codes and over the sources of the book's case
    abbrev by_code : World ℕ
    by_code = world_over (over_codes case) core.acks core.word

    abbrev by_source : World Place
    by_source = world_over (flow_from (sources_of programs) case) core.acks core.word

    book_of : IsBookOf (over_codes case) by_code book
    book_of = subst (λ (c : Case). IsBookOf (over_codes c) (world_over (over_codes c) core.acks core.word) book) (sym is.case) is.book

    worlds : map_world (place programs case) by_code ≡ by_source
    worlds = lift case ss ca ss_places ca_places ss_simulates ca_simulates core.acks core.word

    tracks : track_of (over_codes case) by_code ≡ track_of (read_flow programs book) by_source
    tracks = track-placed case ss ca ss_places ca_places ss_simulates ca_simulates by_code (from_list core.acks) core.word worlds

    read : IsBookReadAs programs book by_source
    read = read_as programs book by_code by_source book_of worlds tracks

    enough : acks_in core.word ≤ length core.acks
    enough =
        let flow = over_codes core.case in
        leb-true (acks_in core.word) (length core.acks)
        (and_parts (nat_le (acks_in core.word) (length core.acks)) (legal_from flow (from_list core.acks) (opening flow) core.word) is.legal).0

    all : acks_in book.word ≡ length by_source.acks
    all = ap acks_in is.word ∙ length-over (flow_from (sources_of programs) case) core.acks core.word enough

    -- the text of its book is its part
    part_printed : book_text programs book ≡ core_part (sources_of programs) core
    part_printed =
        book-part-as programs book by_source read all
        ∙ ap (λ (c : Case). flow_part (sources_of programs) c (world_over (flow_from (sources_of programs) c) core.acks core.word)) is.case

  -- ---- flows in order

  pub parts_printed : (cores : List CoreState) (givens : List Given) → AreGivensOf cores givens → All (IsCoded programs) (map case_of cores)
      → books_text programs (map (λ (given : Given). given.book) givens) ≡ core_parts (sources_of programs) cores
  parts_printed [] [] are coded = refl
  parts_printed [] (given ∷ givens) are coded = absurd are
  parts_printed (core ∷ cores) [] are coded = absurd are
  parts_printed (core ∷ cores) (given ∷ givens) are coded =
      let part = part_printed core given are.0 (coded 0 core.case (omega arith)) in
      let parts = parts_printed cores givens are.1 (λ k d h. coded (suc k) d (omega (arith, h))) in
      λ i. part i ⧺ parts i

pub acks_given : (cores : List CoreState) (givens : List Given) → AreGivensOf cores givens
    → map (λ (given : Given). given.acks) givens ≡ map (λ (core : CoreState). core.acks) cores
acks_given [] [] are = refl
acks_given [] (given ∷ givens) are = absurd are
acks_given (core ∷ cores) [] are = absurd are
acks_given (core ∷ cores) (given ∷ givens) are = λ i. are.0.acks i ∷ acks_given cores givens are.1 i

-- the text of an output, if there was memory for it
pub text_told : {E : Type 0} (wanted : List ℕ) (text : Result (List ℕ) E) (made : Result ModeOutput E)
    → IfOk text (λ t. t ≡ wanted) → IfOk made (λ o. text ≡ Ok o.text) → IfOk made (λ o. o.text ≡ wanted)
text_told wanted text (Ok output) is shown = IfOk-at_ok (λ t. t ≡ wanted) shown is
text_told wanted text (Err error) is shown = tt
