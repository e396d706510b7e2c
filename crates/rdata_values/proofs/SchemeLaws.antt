-- Schemes parse as they print.
use Rattle.std.proofs.Common.{ℕ, ◌≡◌, ◌<◌, ◌^◌, true, List, [], refl, arith}
use Rattle.rdata_values.specs.Registry.{SpellsCode}
use Rattle.rdata_values.specs.Schemes.{scheme_rows, SpellsScheme, scheme_text, SchemesAreKind}
use Rattle.rdata_values.specs.declared.schemes.SyncScheme.{SyncScheme}
use Rattle.rdata_values.proofs.ReadBack.{is_kind}
use Rattle.rdata_values.proofs.Registries.{is_registry, spelled, within, once}

scheme_registry : is_registry scheme_rows [] 255 ≡ true
scheme_registry = refl

one_scheme : (text : List ℕ) (s t : SyncScheme) → SpellsScheme text s → SpellsScheme text t → s ≡ t
one_scheme text s t h k = let same = once scheme_rows [] 255 text s.0 t.0 h k in λ i. record { 0 = same i }

pub schemes_are_kind : SchemesAreKind
schemes_are_kind = is_kind (λ s. s.0 < 2 ^ 8) SpellsScheme scheme_text (λ s small. spelled scheme_rows [] 255 scheme_registry (omega arith) s.0 (omega (arith, small))) one_scheme

-- the number of a scheme is one of 8 bits
pub scheme_within : (text : List ℕ) (code : ℕ) → SpellsCode scheme_rows [] 255 text code → code < 256
scheme_within text code h = let few = within scheme_rows [] 255 scheme_registry (omega arith) text code h in omega (arith, few)
