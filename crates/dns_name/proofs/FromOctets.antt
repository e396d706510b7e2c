-- Octets that are a name's are rejected by no constructor of it.
use Rattle.std.proofs.Common.{◌≡◌, ℕ, ◌<◌, ◌≤◌, List, [], ◌∷◌, length, arith, sym, ◌∙◌, Err}
use Rattle.std.proofs.Common.{⊎_elim}
use Rattle.dns_wire.specs.FromOctets.{HasRest, MakesName, MakesRelative, AnswersLabels, AnswersRelative}
use Rattle.dns_wire.proofs.Splitting.{splits_same, cut_none}
use Rattle.dns_wire.specs.declared.split.Rest.TheVariants.{End, Root}
use Rattle.dns_wire.specs.declared.error.NameError.{NameError}
use Rattle.dns_wire.specs.declared.error.NameError.TheVariants.{BadLabel, CompressedName, LongName, TrailingData, ShortInput, Relative, Absolute}

root_refused : (labels : List (List ℕ)) (rest : List ℕ) (e : NameError) → rest ≡ 0 ∷ [] → AnswersLabels labels rest (Err e) → ⊥
root_refused labels rest (BadLabel e) h a = let n : 0 ≡ e.0 = (let x = sym h ∙ a.1 in cc) in omega (arith, a.2)
root_refused labels rest CompressedName h a = let x = sym h ∙ a.1.3 in let n : [] ≡ a.1.1 ∷ a.1.2 = cc in cc
root_refused labels rest LongName h a = a
root_refused labels rest TrailingData h a = let x = sym h ∙ a.2 in cc
root_refused labels rest ShortInput h a = cut_none [] [] (omega arith) (rw h at a.0)
root_refused labels rest Relative h a = let x = sym h ∙ a.0 in cc
root_refused labels rest Absolute h a = a

pub name_of_root : (octets : List ℕ) (e : NameError) → length octets ≤ 255 → HasRest octets Root → MakesName octets (Err e) → ⊥
name_of_root octets e fits s m =
    ⊎_elim (λ p. omega (arith, p.0)) (λ p. root_refused p.1.0 p.1.1 e ((splits_same octets p.1.0 s.0 p.1.1 s.1 p.1.2 s.2).1 ∙ s.3) p.1.3) m

end_refused : (labels : List (List ℕ)) (rest : List ℕ) (e : NameError) → rest ≡ [] → AnswersRelative labels rest (Err e) → ⊥
end_refused labels rest (BadLabel e) h a = let x = sym h ∙ a.1 in cc
end_refused labels rest CompressedName h a = let x = sym h ∙ a.1.3 in cc
end_refused labels rest LongName h a = a
end_refused labels rest TrailingData h a = a
end_refused labels rest ShortInput h a = a.1 h
end_refused labels rest Relative h a = a
end_refused labels rest Absolute h a = let x = sym h ∙ a.1 in cc

pub relative_of_end : (octets : List ℕ) (e : NameError) → HasRest octets End → MakesRelative octets (Err e) → 254 < length octets
relative_of_end octets e s m =
    ⊎_elim (λ p. p.0) (λ p. absurd (end_refused p.1.0 p.1.1 e ((splits_same octets p.1.0 s.0 p.1.1 s.1 p.1.2 s.2).1 ∙ s.3) p.1.3)) m
