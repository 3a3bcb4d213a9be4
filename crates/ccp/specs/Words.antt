-- What is made of the words that the system gives the process.
use Rattle.std.specs.Prelude.{◌≡◌, Option, Result, Ok, Err, List}
use Rattle.std.specs.IoError.{error_kind}
use Rattle.std.specs.Iterator.{Drains}
use Rattle.std.specs.declared.io.Error.{Error}
use Rattle.std.specs.declared.io.ErrorKind.{ErrorKind}
use Rattle.std.specs.declared.io.ErrorKind.TheVariants.{OutOfMemory}
use Rattle.ccp_base.specs.Outside.{no_memory}
use Rattle.ccp.specs.declared.words.WordsFault.{WordsFault}
use Rattle.ccp.specs.declared.words.WordsFault.TheVariants as faults

-- why there are no words if the system reports an error of this kind
abbrev pub words_fault : ErrorKind → WordsFault
words_fault OutOfMemory = faults.NoMemory no_memory
words_fault _ = faults.NotText

-- these are all the words that the system gives, in order: what calls of `next` give until there is none
abbrev pub AreWords : {I W : Type 0} → (I → Option W → I → Type 0) → Result I Error → List W → Type 0
AreWords next (Ok given) words = Drains next given words
AreWords next (Err error) words = ⊥

-- why there are no words: out of memory for the list of those that the system gives, or its error
abbrev pub IsCause : {I : Type 0} → Result I Error → WordsFault → Type 0
IsCause (Ok given) fault = fault ≡ faults.NoMemory no_memory
IsCause (Err error) fault = fault ≡ words_fault (error_kind error)
