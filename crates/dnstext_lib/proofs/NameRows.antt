-- Computed examples: tokens as names.
use Rattle.std.proofs.Common.{ℕ, [], ◌∷◌, arith, refl, inl, inr, Ok}
use Rattle.std.specs.Prelude.{Vec, codes}
use Rattle.std.specs.Char.{encode_utf8}
use Rattle.std.specs.declared.alloc.Global.{Global}
use Rattle.dns_name.specs.declared.name.UncertainName.TheVariants.{Absolute, Relative}
use Rattle.dns_name.proofs.NameRows as rows
use Rattle.dns_iter.specs.Name.{invalid_name}
use Rattle.dnstext_lib.specs.Program.{NamePrints, NameRefused}

-- a relative name gets the root
printed_relative : NamePrints (codes "a\\.b") (codes "a\\.b.")
unfolding encode_utf8
printed_relative = (codes "a.b" ∷ [] ∷ [], (Ok (Relative (codes "a.b" ∷ [])), (rows.escaped_dot (Vec ℕ Global), omega arith), inr (inl (λ e. cc, refl, omega arith))), refl)

printed_absolute : NamePrints (codes "w\\119w.") (codes "www.")
unfolding encode_utf8
printed_absolute = (codes "www" ∷ [] ∷ [], (Ok (Absolute (codes "www" ∷ [] ∷ [])), (rows.absolute (Vec ℕ Global), omega arith), refl), refl)

printed_root : NamePrints (codes ".") (codes ".")
unfolding encode_utf8
printed_root = ([] ∷ [], (Ok (Absolute ([] ∷ [])), (rows.one_dot (Vec ℕ Global), omega arith), refl), refl)

-- but not one of no labels
refused_empty : NameRefused [] invalid_name
refused_empty = (Ok (Relative []), (rows.no_text (Vec ℕ Global), omega arith), inl (refl, refl))
