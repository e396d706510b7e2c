-- If the capacity is known exactly, parsing a token as a name has one result.
use Rattle.std.proofs.Common.{ℕ, ◌≡◌, List, sym, ap, subst, ◌∙◌, arith, ⊎_elim, Result, Ok, Err}
use Rattle.dns_octets.specs.Room.{exactly}
use Rattle.dns_symbol.specs.Cause.{Cause, IsCause}
use Rattle.dns_name.specs.declared.name.UncertainName.{UncertainName}
use Rattle.dns_name.specs.declared.name.UncertainName.TheVariants.{Absolute, Relative}
use Rattle.dns_name.specs.declared.name.error.FromStrError.{FromStrError}
use Rattle.dns_name.specs.declared.name.error.FromStrError.TheVariants.{Symbol, BadOctet, BinaryLabel, EmptyLabel, LongLabel, LongName, ShortBuf}
use Rattle.dns_name.proofs.OneAnswer.{one_answer}
use Rattle.dns_scan.specs.Numbers.{by_cause}
use Rattle.dns_iter.specs.Name.{AnswersName, ReadsToken}

abbrev Answer : Type 0 → Type 0
Answer E = Result (List (List ℕ)) E

module _ {E : Type 0} (cause : E → Cause) (size : ℕ) where
  caused : (r : Answer E) (why : Cause) → IsCause cause r why → by_cause cause r ≡ Err why
  caused (Ok v) why h = absurd h
  caused (Err e) why h = ap (λ c. Err c) h

  both_caused : (q r : Answer E) (why : Cause) → IsCause cause q why → IsCause cause r why → by_cause cause q ≡ by_cause cause r
  both_caused q r why h k = caused q why h ∙ sym (caused r why k)

  answers_once : {O : Type 0} (read : Result (UncertainName O) FromStrError) (q r : Answer E) → AnswersName cause (exactly size) read q → AnswersName cause (exactly size) read r → by_cause cause q ≡ by_cause cause r
  answers_once (Ok (Absolute name)) q r h k = ap (by_cause cause) (h ∙ sym k)
  answers_once (Ok (Relative name)) q r h k =
      ⊎_elim
      (λ a. ⊎_elim (λ b. both_caused q r _ a.1 b.1) (λ m. absurd (⊎_elim (λ b. b.0 a.0) (λ b. b.0 a.0) m)) k)
      (λ l. ⊎_elim
      (λ a. ⊎_elim
      (λ b. absurd (a.0 b.0))
      (λ m. ⊎_elim (λ b. ap (by_cause cause) (a.1 ∙ sym b.1)) (λ b. absurd (omega (arith, a.2, b.1))) m)
      k)
      (λ a. ⊎_elim
      (λ b. absurd (a.0 b.0))
      (λ m. ⊎_elim (λ b. absurd (omega (arith, a.1, b.2))) (λ b. both_caused q r _ a.2 b.2) m)
      k)
      l)
      h
  answers_once (Err (Symbol e)) q r h k = both_caused q r _ h k
  answers_once (Err BadOctet) q r h k = both_caused q r _ h k
  answers_once (Err BinaryLabel) q r h k = both_caused q r _ h k
  answers_once (Err EmptyLabel) q r h k = both_caused q r _ h k
  answers_once (Err LongLabel) q r h k = both_caused q r _ h k
  answers_once (Err LongName) q r h k = both_caused q r _ h k
  answers_once (Err ShortBuf) q r h k = both_caused q r _ h k

  pub tokens_once : (O : Type 0) (token : List ℕ) (q r : Answer E) → ReadsToken O cause (exactly size) token q → ReadsToken O cause (exactly size) token r → by_cause cause q ≡ by_cause cause r
  tokens_once O token q r h k = answers_once k.0 q r (subst (λ a. AnswersName cause (exactly size) a q) (one_answer token size h.0 k.0 h.1 k.1) h.2) k.2
