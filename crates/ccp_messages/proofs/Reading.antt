-- What readers answer.
use Rattle.std.proofs.Common.{◌≡◌, ℕ, zero, suc, List, Result, Ok, Err, refl, sym, ap, subst, ◌∙◌}
use Rattle.std.specs.Prelude.{map}
use Rattle.std.specs.Int.{w32}
use Rattle.reply_frames.specs.declared.fault.Stop.{Stop}
use Rattle.reply_frames.specs.declared.outline.Counts.{Counts}
use Rattle.reply_frames.specs.Parts.{Read, ◌>>=◌, number_at, repeated_at}
use Rattle.reply_frames.specs.Frames.{start_at, event_at, instruction_at, install_at}
use Rattle.ccp_messages.specs.declared.fault.Halt.{Halt}
use Rattle.ccp_messages.specs.declared.fault.Halt.TheVariants as halt
use Rattle.ccp_messages.specs.CodeParts.{decoded_start, decoded_event, decoded_instr}
use Rattle.ccp_messages.specs.Messages.{message_of}
use Rattle.ccp_messages.specs.Decoding.{ReturnsReading, made, code_start_at, code_event_at, code_instr_at, install_message_at}

-- a `?` that passed on where reading stopped
pub answers-stop : {X Y : Type 0} (view : X → Y) (result : Result X Halt) (y : Halt) (stop : Stop) (read : Result Y Stop) → result ≡ Err y → y ≡ halt.Stopped stop → read ≡ Err stop → ReturnsReading view result read
answers-stop {X = X} view result y stop read is said stopped = subst (λ (r : Result X Halt). ReturnsReading view r read) (sym (is ∙ ap Err said)) stopped

-- what is made of parts one after the other
made-then : {X B C : Type 0} (make : B → C) (read : Result X Stop) (next : X → Read B) (next' : X → Read C) → ((x : X) → made make (next x) ≡ next' x) → made make (read >>= next) ≡ (read >>= next')
made-then make (Ok x) next next' same = same x
made-then make (Err stop) next next' same = refl

made-both : {A A' B C : Type 0} (make : B → C) (part : A → A') (read : Read A) (read' : Read A') (next : A × List ℕ → Read B) (next' : A' × List ℕ → Read C) → made part read ≡ read' → ((x : A × List ℕ) → made make (next x) ≡ next' (part x.0, x.1)) → made make (read >>= next) ≡ (read' >>= next')
made-both make part (Ok x) read' next next' is same = same x ∙ ap (λ r. r >>= next') is
made-both make part (Err stop) read' next next' is same = ap (λ r. r >>= next') is

-- what is made of each of `count` parts
made-repeated : {A B : Type 0} (make : A → B) (part : List ℕ → Read A) (count : ℕ) (bytes : List ℕ) → made (map make) (repeated_at part count bytes) ≡ repeated_at (λ bytes. made make (part bytes)) count bytes
unfolding repeated_at
made-repeated make part zero bytes = refl
made-repeated make part (suc count) bytes =
    made-both (map make) make (part bytes) (made make (part bytes)) _ _ refl
    (λ first. made-both (map make) (map make) (repeated_at part count first.1) (repeated_at (λ bytes. made make (part bytes)) count first.1) _ _ (made-repeated make part count first.1) (λ others. refl))

pub made-install : (flow : ℕ) (counts : Counts) (bytes : List ℕ) → made (message_of flow) (install_at counts bytes) ≡ install_message_at flow counts bytes
unfolding install_at install_message_at
made-install flow counts bytes =
    made-then (message_of flow) (number_at w32 bytes) _ _
    (λ program. made-both (message_of flow) (map decoded_start) (repeated_at start_at counts.n1 program.1) (repeated_at code_start_at counts.n1 program.1) _ _ (made-repeated decoded_start start_at counts.n1 program.1)
    (λ reports. made-both (message_of flow) (map decoded_start) (repeated_at start_at counts.n2 reports.1) (repeated_at code_start_at counts.n2 reports.1) _ _ (made-repeated decoded_start start_at counts.n2 reports.1)
    (λ controls. made-both (message_of flow) (map decoded_event) (repeated_at event_at counts.n3 controls.1) (repeated_at code_event_at counts.n3 controls.1) _ _ (made-repeated decoded_event event_at counts.n3 controls.1)
    (λ events. made-both (message_of flow) (map decoded_instr) (repeated_at instruction_at counts.n4 events.1) (repeated_at code_instr_at counts.n4 events.1) _ _ (made-repeated decoded_instr instruction_at counts.n4 events.1)
    (λ instructions. refl)))))
