-- What `live` makes of its cases: a book of each, and the text of these books.
use Rattle.std.specs.Prelude.{◌≡◌, ℕ, Bool, true, List, map}
use Rattle.std.specs.List.{All}
use Rattle.ccp_base.specs.Text.{◌⧺◌}
use Rattle.reg_compiler.specs.declared.built.Built.{Built}
use Rattle.flow_core.specs.declared.book.Book.{Book}
use Rattle.flow_core.specs.declared.case.Case.{Case}
use Rattle.flow_core.specs.LiveText.{live_text}
use Rattle.flow_core.specs.Words.{legal, is_complete}
use Rattle.campaign_report.specs.BooksRead.{IsBookRead, read_flow, read_world, flows_of}
use Rattle.scene_members.specs.declared.mode.SceneMode.TheVariants as scene
use Rattle.reg_compiler.specs.Sources.{sources_of}
use Rattle.run_ending.specs.declared.outcome.ModeOutput.{ModeOutput}
use Rattle.ccp_run.specs.Campaign.{frames_shown}
use Rattle.ccp_run.specs.Rules.{Rules}
use Rattle.ccp_run.specs.Scenes.{IsSceneOutput, scene_rules}

-- the book's word is legal and complete for its case, and the book shows what the word means, all read over the
-- sources of these programs
pub record IsRightBook (programs : List (ℕ × Built)) (book : Book) : Type 0 where
  pub legal : legal (read_flow programs book) book.case.link book.word ≡ true
  pub complete : is_complete (read_flow programs book) (read_world programs book) ≡ true
  pub read : IsBookRead programs book

-- the cases that books are of, in order
abbrev pub book_cases : List Book → List Case
book_cases books = map (λ (book : Book). book.case) books

-- the live text of books over the sources of these programs, after the programs' frames if they are asked for
abbrev pub books_written : Bool → List (ℕ × Built) → List Book → List ℕ
books_written wire programs books = frames_shown wire programs ⧺ live_text (sources_of programs) (flows_of books)

-- there is one book for each of the cases, in order, which has a legal and complete word, and the output is the live
-- text of these words. Nothing says which words they are.
pub record TellsLive (wire : Bool) (programs : List (ℕ × Built)) (cases : List Case)
    (output : ModeOutput) : Type 0 where
  pub books : book_cases output.books ≡ cases
  pub right : All (IsRightBook programs) output.books
  pub written : output.text ≡ books_written wire programs output.books
  pub idle : output.ran ≡ 0

-- the output shows this for the scenario's cases
abbrev pub IsLiveOutput : Bool → List ℕ → ModeOutput → Type 0
IsLiveOutput wire = IsSceneOutput scene.Live (TellsLive wire)

abbrev pub live_rules : Bool → Rules
live_rules wire = scene_rules scene.Live (IsLiveOutput wire)
