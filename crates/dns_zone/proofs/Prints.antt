-- What a run of a writer prints.
use Rattle.std.proofs.Common.{MutBor, Some, Result, Ok, Err, OnOk, IsOk, ◌≡◌, ℕ, List, [], ◌∷◌, sym, subst}
use Rattle.std.specs.List.{FoldsTo, concat}
use Rattle.std.specs.Fmt.{WritesInCalls, HasWritten, IsPlainFormatter}
use Rattle.std.specs.declared.fmt.Formatter.{Formatter}
use Rattle.std.proofs.Output.{writes_in_calls_append, writes_in_calls_nil, has_written_append, has_written_of_eq, LentTook, WritesText-from_lent}
use Rattle.dns_zone.specs.Layout.{Step, text_of_steps}
use Rattle.dns_zone.specs.Writers.{PrintsStep}

module _ {F W : Type 0} (stands : F → List Step → Type 0) (sink : F → W) (took : W → List ℕ → W → Type 0) (piece : List Step → Step → List ℕ) where
  pub prints_run : (w : F) (xs : List Step) (v : F) (past : List Step) → stands w past → FoldsTo (PrintsStep stands sink took piece) w xs v
      → WritesInCalls took (sink w) (text_of_steps piece past xs) (sink v)
  prints_run w [] v past h p = subst (λ (x : F). WritesInCalls took (sink w) [] (sink x)) p (writes_in_calls_nil took (sink w))
  prints_run w (x ∷ xs) v past h p =
      let one = p.1 past h in
      writes_in_calls_append took _ _ (sink p.0) _ _ one.wrote (prints_run p.0 xs v (x ∷ past) one.next p.2)

-- calls on a plain formatter are writes to what it holds
module _ {W : Type 0} (took : W → List ℕ → W → Type 0) where
  abbrev pub FormatterTook : Formatter W → List ℕ → Formatter W → Type 0
  FormatterTook f bs g = IsPlainFormatter f → HasWritten took f bs g

  calls_on_plain : (f : Formatter W) (xs : List (List ℕ)) (g : Formatter W) → IsPlainFormatter f → FoldsTo FormatterTook f xs g → HasWritten took f (concat xs) g
  calls_on_plain f [] g plain p = subst (λ (x : Formatter W). HasWritten took f [] x) p (record { wrote = writes_in_calls_nil took _; plain = plain })
  calls_on_plain f (x ∷ xs) g plain p =
      let one = p.1 plain in
      has_written_append took f x p.0 (concat xs) g one (calls_on_plain p.0 xs g one.plain p.2)

  pub writes_on_plain : (f : Formatter W) (bs : List ℕ) (g : Formatter W) → IsPlainFormatter f → WritesInCalls FormatterTook f bs g → HasWritten took f bs g
  writes_on_plain f bs g plain p = has_written_of_eq took f _ bs g p.whole (calls_on_plain f p.parts g plain p.calls)

-- what a writer over a borrowed sink printed, stated of the sink: s is its value at first, and t at the end
module _ {W : Type 0} (took : W → List ℕ → W → Type 0) where
  pub lent_run : (s r t u : MutBor W) (v : W) (bs : List ℕ) → s ≡ r → u ≡ t → (u.ghost_name ≡ r.ghost_name → v ≡ u.now)
      → WritesInCalls (LentTook took) s bs t → WritesInCalls took r.now bs v
  lent_run s r t u v bs e i back p =
      WritesText-from_lent took r u v (Some bs) back (subst (λ (x : MutBor W). WritesInCalls (LentTook took) x bs u) e (subst (λ (x : MutBor W). WritesInCalls (LentTook took) s bs x) (sym i) p))

pub at_ok : {T E P : Type 0} (r : Result T E) → OnOk r P → IsOk r → P
at_ok (Ok x) p e = p
at_ok (Err x) p e = absurd cc
