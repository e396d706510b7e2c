-- What a run wrote to a sink, by the contents of the stream below it.
use Rattle.std.proofs.Common.{◌≡◌, ◌≤◌, ◌<◌, ◌⊎◌, inl, inr, ⊎_elim, ℕ, zero, suc, List, [], ◌∷◌, ◌++◌, Option, Some, None, refl, sym, ap, subst, ◌∙◌, arith, append-nil}
use Rattle.std.specs.List.{FoldsTo}
use Rattle.std.specs.Fmt.{WritesInCalls}
use Rattle.std.specs.Io.KnownBytes.{Appends, Keeps}
use Rattle.std.proofs.lemmas.Fmt.{contents_after_writes}
use Rattle.dnstext_lib.specs.Program.{refusal_line}
use Rattle.dnstext_lib.specs.Run.{IsUnknownCommand, RunPrinted, RunRefused}
use Rattle.dnstext.specs.Streams.{StreamGrows, Printed, Refused, Ran}
use Rattle.dnstext.specs.declared.streams.TextSink.{TextSink}

-- bytes that are kept
pub kept_here : (o : Option (List ℕ)) → Keeps o o
kept_here None = tt
kept_here (Some xs) = refl

pub kept_by_none : (o p : Option (List ℕ)) (bytes : List ℕ) → bytes ≡ [] → Appends o p bytes → Keeps o p
kept_by_none None p bytes e h = tt
kept_by_none (Some xs) None bytes e h = absurd h
kept_by_none (Some xs) (Some ys) bytes e h = h ∙ ap (λ b. xs ++ b) e ∙ append-nil xs

-- a text that held nothing, after these calls
pub text_after : {L : Type 0} (bytes : L → List ℕ) (s : L) (text : List ℕ) (t : L) → bytes s ≡ [] → WritesInCalls (λ (u : L) b (v : L). bytes v ≡ bytes u ++ b) s text t → bytes t ≡ text
text_after {L} bytes s text t none calls = contents_after_writes (λ (u : L) b (v : L). bytes v ≡ bytes u ++ b) bytes (λ u b v is. is) s text t calls ∙ ap (λ x. x ++ text) none

pub by_status : {P : Type 0} (n : ℕ) → n ≤ 3 → (n ≡ 0 → P) → (n ≡ 1 → P) → (n ≡ 2 → P) → (n ≡ 3 → P) → P
by_status zero h a b c d = a refl
by_status (suc zero) h a b c d = b refl
by_status (suc (suc zero)) h a b c d = c refl
by_status (suc (suc (suc zero))) h a b c d = d refl
by_status (suc (suc (suc (suc n)))) h a b c d = absurd (omega arith)

-- name is the loan that a sink writes to, held the bytes there, and p those after the run
module _ {S N : Type 0} (took : S → List ℕ → S → Type 0) (name : S → N) (held : S → Option (List ℕ))
    (stays : (s : S) (bytes : List ℕ) (t : S) → took s bytes t → name t ≡ name s)
    (grows : (s : S) (bytes : List ℕ) (t : S) → took s bytes t → StreamGrows (held s) bytes (held t)) where
  folds_stay : (s : S) (parts : List (List ℕ)) (t : S) → FoldsTo took s parts t → name t ≡ name s
  folds_stay s [] t same = ap name (sym same)
  folds_stay s (x ∷ xs) t calls = folds_stay calls.0 xs t calls.2 ∙ stays s x calls.0 calls.1

  folds_grow : (s : S) (parts : List (List ℕ)) (t : S) → FoldsTo took s parts t → FoldsTo StreamGrows (held s) parts (held t)
  folds_grow s [] t same = ap held same
  folds_grow s (x ∷ xs) t calls = (held calls.0, grows s x calls.0 calls.1, folds_grow calls.0 xs t calls.2)

  calls_stay : (s : S) (bytes : List ℕ) (t : S) → WritesInCalls took s bytes t → name t ≡ name s
  calls_stay s bytes t calls = folds_stay s calls.parts t calls.calls

  calls_grow : (s : S) (bytes : List ℕ) (t : S) → WritesInCalls took s bytes t → WritesInCalls StreamGrows (held s) bytes (held t)
  calls_grow s bytes t calls = record { parts = calls.parts; calls = folds_grow s calls.parts t calls.calls; whole = calls.whole }

  pub printed_held : (words : List (List ℕ)) (s t : S) (p : Option (List ℕ)) → (name t ≡ name s → Keeps (held t) p) → RunPrinted took words s t → Printed words (held s) p
  printed_held words s t p kept (inl r) = (held t, inl (r.0, r.1, r.2, (r.3.0, r.3.1, calls_grow s _ t r.3.2)), kept (calls_stay s _ t r.3.2))
  printed_held words s t p kept (inr (inl r)) = (held t, inr (inl (r.0, r.1, r.2, (r.3.0, calls_grow s _ t r.3.1))), kept (calls_stay s _ t r.3.1))
  printed_held words s t p kept (inr (inr r)) =
      (held t, inr (inr (r.0, r.1, r.2, (r.3.0, r.3.1, r.3.2, calls_grow s _ t r.3.3))), kept (calls_stay s _ t r.3.3))

  pub refused_held : (words : List (List ℕ)) (s t : S) (p : Option (List ℕ)) (reason : List ℕ) → (name t ≡ name s → Keeps (held t) p) → RunRefused took words s t reason
      → Refused words (held s) p reason
  refused_held words s t p reason kept (inl (kind, tokens, asks, inl r)) =
      (held t, inl (kind, tokens, asks, inl (r.0, r.1, r.2, calls_grow s _ t r.3, r.4)), kept (calls_stay s _ t r.3))
  refused_held words s t p reason kept (inl (kind, tokens, asks, inr r)) = (p, inl (kind, tokens, asks, inr r), kept_here p)
  refused_held words s t p reason kept (inr (inl (kind, items, asks, inl r))) =
      (held t, inr (inl (kind, items, asks, inl (r.0, r.1, r.2, r.3, ap held r.4, r.5))), kept (ap name r.4))
  refused_held words s t p reason kept (inr (inl (kind, items, asks, inr (inl r)))) = (p, inr (inl (kind, items, asks, inr (inl r))), kept_here p)
  refused_held words s t p reason kept (inr (inl (kind, items, asks, inr (inr r)))) =
      (held t, inr (inl (kind, items, asks, inr (inr (r.0, ap held r.1, r.2)))), kept (ap name r.1))
  refused_held words s t p reason kept (inr (inr (kind, fields, asks, inl r))) =
      (held t, inr (inr (kind, fields, asks, inl (r.0, r.1, r.2, r.3, r.4, ap held r.5, r.6))), kept (ap name r.5))
  refused_held words s t p reason kept (inr (inr (kind, fields, asks, inr (inl r)))) =
      (held t, inr (inr (kind, fields, asks, inr (inl (r.0, r.1, r.2, r.3, r.4, r.5, ap held r.6, r.7)))), kept (ap name r.6))
  refused_held words s t p reason kept (inr (inr (kind, fields, asks, inr (inr (inl r))))) = (p, inr (inr (kind, fields, asks, inr (inr (inl r)))), kept_here p)
  refused_held words s t p reason kept (inr (inr (kind, fields, asks, inr (inr (inr r))))) =
      (held t, inr (inr (kind, fields, asks, inr (inr (inr (r.0, ap held r.1, r.2))))), kept (ap name r.1))

-- the same of a sink over a borrowed stream: e is the sink at its end, and v the stream then
module _ {O : Type 0} (contents : O → Option (List ℕ)) where
  abbrev pub Took : TextSink O → List ℕ → TextSink O → Type 0
  Took s bytes t = (t.writer.ghost_name ≡ s.writer.ghost_name) × Appends (contents s.writer.now) (contents t.writer.now) bytes

  pub record GivenBack (s t e : TextSink O) (v : O) : Type 0 where
    pub back : e.writer.ghost_name ≡ s.writer.ghost_name → v ≡ e.writer.now
    pub loan : e.writer.ghost_name ≡ t.writer.ghost_name
    pub kept : Keeps (contents t.writer.now) (contents e.writer.now)

  kept_back : (s t e : TextSink O) (v : O) → GivenBack s t e v → t.writer.ghost_name ≡ s.writer.ghost_name → Keeps (contents t.writer.now) (contents v)
  kept_back s t e v g same = subst (λ (x : O). Keeps (contents t.writer.now) (contents x)) (sym (g.back (g.loan ∙ same))) g.kept

  pub untouched : (s t e : TextSink O) (v : O) → GivenBack s t e v → t ≡ s → Keeps (contents s.writer.now) (contents v)
  untouched s t e v g same = subst (λ (x : TextSink O). Keeps (contents x.writer.now) (contents v)) same (kept_back s t e v g (ap (λ (x : TextSink O). x.writer.ghost_name) same))

  pub printed_on : (words : List (List ℕ)) (s t e : TextSink O) (v : O) → GivenBack s t e v → RunPrinted Took words s t → Printed words (contents s.writer.now) (contents v)
  printed_on words s t e v g r =
      printed_held Took (λ x. x.writer.ghost_name) (λ x. contents x.writer.now) (λ x b y k. k.0) (λ x b y k. k.1) words s t (contents v) (kept_back s t e v g) r

  pub refused_on : (words : List (List ℕ)) (s t e : TextSink O) (v : O) (reason : List ℕ) → GivenBack s t e v → RunRefused Took words s t reason
      → Refused words (contents s.writer.now) (contents v) reason
  refused_on words s t e v reason g r =
      refused_held Took (λ x. x.writer.ghost_name) (λ x. contents x.writer.now) (λ x b y k. k.0) (λ x b y k. k.1) words s t (contents v) reason (kept_back s t e v g) r

  pub ran_on : (words : List (List ℕ)) (s t e : TextSink O) (v : O) (status : ℕ) (line : List ℕ) → GivenBack s t e v → status < 2
      → (status ≡ 0 → RunPrinted Took words s t × (line ≡ [])) → (status ≡ 1 → (reason : List ℕ) × RunRefused Took words s t reason × (line ≡ refusal_line reason))
      → Ran words (contents s.writer.now) (contents v) line
  ran_on words s t e v zero line g small a b = let r = a refl in inl (printed_on words s t e v g r.0, r.1)
  ran_on words s t e v (suc zero) line g small a b = let r = b refl in inr (r.0, refused_on words s t e v r.0 g r.1, r.2)
  ran_on words s t e v (suc (suc n)) line g small a b = absurd (omega arith)

  pub silent_on : (words : List (List ℕ)) (s t e : TextSink O) (v : O) (status : ℕ) → GivenBack s t e v → status ≤ 3
      → (status ≡ 0 → RunPrinted Took words s t) → (status ≡ 1 → (reason : List ℕ) × RunRefused Took words s t reason) → (status ≡ 2 → IsUnknownCommand words × (t ≡ s))
      → (status ≡ 3 → (IsUnknownCommand words × (t ≡ s)) ⊎ ((reason : List ℕ) × RunRefused Took words s t reason))
      → (IsUnknownCommand words × Keeps (contents s.writer.now) (contents v)) ⊎ ((line : List ℕ) × Ran words (contents s.writer.now) (contents v) line)
  silent_on words s t e v status g small a b asks d =
      let refused : (reason : List ℕ) → RunRefused Took words s t reason → (line : List ℕ) × Ran words (contents s.writer.now) (contents v) line =
      λ reason r. (refusal_line reason, inr (reason, refused_on words s t e v reason g r, refl)) in
      by_status status small
      (λ z. inr ([], inl (printed_on words s t e v g (a z), refl)))
      (λ z. let r = b z in inr (refused r.0 r.1))
      (λ z. let r = asks z in inl (r.0, untouched s t e v g r.1))
      (λ z. ⊎_elim (λ r. inl (r.0, untouched s t e v g r.1)) (λ r. inr (refused r.0 r.1)) (d z))
