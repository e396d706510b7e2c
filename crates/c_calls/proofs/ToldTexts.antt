-- What is reported for an encoded text that was printed or parsed.
use Rattle.std.proofs.Common.{◌≡◌, ◌≤◌, ◌<◌, ℕ, zero, suc, List, [], ◌∷◌, ◌++◌, length, take, drop, refl, sym, ap, subst, ◌∙◌, arith, Option, Some, None, Result, Ok, Err, inl, inr}
use Rattle.std.specs.Prelude.{IfOk, IfErr, IfSome, IfNone}
use Rattle.std.proofs.lemmas.Grind.{common_steps}
use Rattle.dns_octets.specs.declared.error.ShortBuf.{ShortBuf}
use Rattle.dns_codec.specs.Base.{Base, IsEncoding}
use Rattle.dns_codec.specs.Grammar.{Decodes}
use Rattle.dns_codec.specs.Outcome.{octet_count}
use Rattle.dns_codec.specs.Written.{IsWritten}
use Rattle.c_calls.specs.Codecs.{DecodesText}
use Rattle.c_calls.specs.Reports.{number_of, CopiesWhole, ReportsFault}
use Rattle.c_calls.specs.declared.outcome.Outcome.{Outcome}
use Rattle.c_calls.specs.declared.outcome.Refusal.TheVariants.{NoRoom, BadEncoding}
use Rattle.c_calls.proofs.Lengths.{decoded_length}

no_longer : (k : ℕ) (made new : List ℕ) → take k new ≡ made → length made ≤ length new
no_longer k made new h = subst (λ l. length l ≤ length new) h (Prim.grind (arith, common_steps))

-- a text that was printed is returned
pub given : (made old new : List ℕ) (r : Result ℕ ShortBuf) (n status : ℕ) (outcome : Outcome) → IsWritten made old r new → length new ≡ length old → n ≡ length made
    → IfOk r (λ _. status ≡ 0) → IfErr r (λ _. status ≡ number_of NoRoom) → outcome ≡ record { length = n; place = 0 } → CopiesWhole made old status new outcome
given made old new (Ok k) n status outcome w kept is ok err told = record {
  told = subst (λ m. outcome ≡ record { length = m; place = 0 }) is told;
  fits = λ _. let p = subst (λ m. (take m new ≡ made) × (drop m new ≡ drop m old)) w.0 (w.1, w.2) in (ok, p.0, p.1);
  lacks = λ short. let le = no_longer k made new w.1 in absurd (omega (arith, short, le, kept));
}
given made old new (Err e) n status outcome w kept is ok err told = record {
  told = subst (λ m. outcome ≡ record { length = m; place = 0 }) is told;
  fits = λ le. absurd (omega (arith, w.0, le));
  lacks = λ _. (err, w.1);
}

after_front : (xs ys : List ℕ) → drop (length xs) (xs ++ ys) ≡ ys
after_front [] ys = refl
after_front (x ∷ xs) ys = after_front xs ys

whole_front : (k : ℕ) (xs ys : List ℕ) → length (take k xs) ≡ length xs → take (length xs) (xs ++ ys) ≡ take k xs
whole_front k [] ys h = Prim.grind (arith, common_steps)
whole_front zero (x ∷ xs) ys h = absurd (omega (arith, h))
whole_front (suc k) (x ∷ xs) ys h = ap (λ l. x ∷ l) (whole_front k xs ys (omega (arith, h)))

-- a text that was parsed into a buffer of exactly its length is reported
pub told : (b : Base) → IsEncoding b → (text old part : List ℕ) (r : Option ℕ) (n m status : ℕ) (outcome : Outcome) → n ≡ octet_count b text → n ≤ length old → length part ≡ n → m ≡ n
    → IfSome r (λ k. Decodes b text (take k part) × (k ≤ length part)) → IfNone r ((v : List ℕ) → Decodes b text v → m < length v)
    → IfSome r (λ _. (status ≡ 0) × (outcome ≡ record { length = n; place = 0 })) → IfNone r (ReportsFault (record { refusal = BadEncoding; place = 0 }) status outcome)
    → DecodesText b text old status (part ++ drop n old) outcome
told b known text old part (Some k) n m status outcome is le kept same read none well bad =
    let long = decoded_length b known text (take k part) read.0 in
    let here : length part ≡ octet_count b text = kept ∙ is in
    let value : take (octet_count b text) (part ++ drop n old) ≡ take k part = subst (λ d. take d (part ++ drop n old) ≡ take k part) here (whole_front k part (drop n old) (long ∙ sym here)) in
    record {
      fits = λ _. inl (well.0, subst (λ d. outcome ≡ record { length = d; place = 0 }) is well.1, subst (Decodes b text) (sym value) read.0);
      lacks = λ short. absurd (omega (arith, short, is, le));
      rest = subst (λ d. drop d (part ++ drop n old) ≡ drop d old) is (subst (λ d. drop d (part ++ drop n old) ≡ drop n old) kept (after_front part (drop n old)));
    }
told b known text old part None n m status outcome is le kept same read none well bad =
    record {
      fits = λ _. inr (bad, λ v d. let long = decoded_length b known text v d in let over = none v d in omega (arith, long, over, same, is));
      lacks = λ short. absurd (omega (arith, short, is, le));
      rest = subst (λ d. drop d (part ++ drop n old) ≡ drop d old) is (subst (λ d. drop d (part ++ drop n old) ≡ drop n old) kept (after_front part (drop n old)));
    }
