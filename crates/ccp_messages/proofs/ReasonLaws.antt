-- A reason and its number determine one another, and what is read of a Refused has the number of a reason.
use Rattle.std.proofs.Common.{◌≡◌, ℕ, zero, suc, ◌≤◌, Some, List, Ok, refl, ap, arith}
use Rattle.std.specs.Int.{w32}
use Rattle.ccp_base.specs.Limits.{most_reason}
use Rattle.reply_frames.specs.declared.fault.BadKind.TheVariants as bad
use Rattle.reply_frames.specs.Parts.{Read, ◌>>=◌, byte_at, number_at}
use Rattle.reply_frames.specs.Frames.{Body, refused_at}
use Rattle.reply_frames.specs.Frames as body
use Rattle.reply_frames.proofs.Codec.{AllBytes, ok-pair, byte-is}
use Rattle.reply_frames.proofs.ExactParts.{bind_ok}
use Rattle.ccp_messages.specs.declared.reason.Reason.{Reason}
use Rattle.ccp_messages.specs.declared.reason.Reason.TheVariants.{FlowAbove, FlowExists, NoFlow, ProgramAbove}
use Rattle.ccp_messages.specs.declared.reason.Reason.TheVariants.{ProgramExists, NoProgram, NotAccepted, NoRegister}
use Rattle.ccp_messages.specs.declared.reason.Reason.TheVariants.{TooWide}
use Rattle.ccp_messages.specs.Reasons.{number_of_reason, reason_at, reason_of}

pub reason-back : (reason : Reason) → reason_of (number_of_reason reason) ≡ reason
reason-back FlowAbove = refl
reason-back FlowExists = refl
reason-back NoFlow = refl
reason-back ProgramAbove = refl
reason-back ProgramExists = refl
reason-back NoProgram = refl
reason-back NotAccepted = refl
reason-back NoRegister = refl
reason-back TooWide = refl

pub reason-within : (reason : Reason) → (1 ≤ number_of_reason reason) × (number_of_reason reason ≤ most_reason)
reason-within FlowAbove = (omega arith, omega arith)
reason-within FlowExists = (omega arith, omega arith)
reason-within NoFlow = (omega arith, omega arith)
reason-within ProgramAbove = (omega arith, omega arith)
reason-within ProgramExists = (omega arith, omega arith)
reason-within NoProgram = (omega arith, omega arith)
reason-within NotAccepted = (omega arith, omega arith)
reason-within NoRegister = (omega arith, omega arith)
reason-within TooWide = (omega arith, omega arith)

-- the reason of a number from 1 to 9, and its number
record IsNumbered (n : ℕ) : Type 0 where
  pub some : reason_at n ≡ Some (reason_of n)
  pub again : number_of_reason (reason_of n) ≡ n

numbered : (n : ℕ) → 1 ≤ n → n ≤ most_reason → IsNumbered n
numbered zero least most = absurd (omega (arith, least))
numbered (suc zero) least most = record { some = refl; again = refl }
numbered (suc (suc zero)) least most = record { some = refl; again = refl }
numbered (suc (suc (suc zero))) least most = record { some = refl; again = refl }
numbered (suc (suc (suc (suc zero)))) least most = record { some = refl; again = refl }
numbered (suc (suc (suc (suc (suc zero))))) least most = record { some = refl; again = refl }
numbered (suc (suc (suc (suc (suc (suc zero)))))) least most = record { some = refl; again = refl }
numbered (suc (suc (suc (suc (suc (suc (suc zero))))))) least most = record { some = refl; again = refl }
numbered (suc (suc (suc (suc (suc (suc (suc (suc zero)))))))) least most = record { some = refl; again = refl }
numbered (suc (suc (suc (suc (suc (suc (suc (suc (suc zero))))))))) least most = record { some = refl; again = refl }
numbered (suc (suc (suc (suc (suc (suc (suc (suc (suc (suc n)))))))))) least most = absurd (omega (arith, most))

pub reason-some : (n : ℕ) → 1 ≤ n → n ≤ most_reason → reason_at n ≡ Some (reason_of n)
reason-some n least most = (numbered n least most).some

pub reason-again : (n : ℕ) → 1 ≤ n → n ≤ most_reason → number_of_reason (reason_of n) ≡ n
reason-again n least most = (numbered n least most).again

same-number : (a b i j : ℕ) (rest rest' : List ℕ)
    → ◌≡◌ {A = Read Body} (Ok (body.Refused a i, rest)) (Ok (body.Refused b j, rest')) → a ≡ b
same-number a b i j rest rest' e =
    let pairs = ok-pair (body.Refused a i, rest) (body.Refused b j, rest') e in
    let bodies : body.Refused a i ≡ body.Refused b j = ap (λ (p : Body × List ℕ). p.0) pairs in
    cc

-- the number of a Refused that is read is that of a reason
pub refused-some : (bytes : List ℕ) (number index : ℕ) (rest : List ℕ) → AllBytes bytes
    → refused_at bytes ≡ Ok (body.Refused number index, rest) → reason_at number ≡ Some (reason_of number)
unfolding refused_at
refused-some bytes number index rest fits e =
    let a = bind_ok (byte_at bad.Kind 1 most_reason bytes)
    (λ reason. number_at w32 reason.1 >>= λ index. Ok (body.Refused reason.0 index.0, index.1)) _ e in
    let b = bind_ok (number_at w32 a.0.1) (λ index. Ok (body.Refused a.0.0 index.0, index.1)) _ a.2 in
    let bounds = byte-is bad.Kind 1 most_reason bytes a.0 fits a.1 in
    let same : a.0.0 ≡ number = same-number a.0.0 number b.0.0 index b.0.1 rest b.2 in
    reason-some number (omega (arith, bounds.1, same)) (omega (arith, bounds.2, same))
