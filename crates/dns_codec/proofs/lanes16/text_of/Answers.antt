use Rattle.std.proofs.Common.{◌≡◌, ℕ, ap, bit_and, map, slice_index, ◌∙◌, ◌/◌, arith}
use Rattle.std.proofs.lemmas.Nat.{and_le_r}
use Rattle.std.proofs.lemmas.Simd.{map-map, zip2_splat}
use Rattle.dns_codec.specs.Base.{base16}
use Rattle.dns_codec.proofs.VectorsOf16.{interleaved, digits_two}
use Rattle.dns_codec.proofs.Vectors.{map_below, octets_fit}
use Rattle.dns_codec.proofs.lanes16.text_of.Goals as goal

pub characters-high-requires : goal.characters-high-requires
characters-high-requires c =
    let v = c.args.octets in
    rw (zip2_splat {Y = ℕ} {Z = ℕ} _ v 16 4 c.fits-octets.0) (map_below 256 16 (λ o. o / 16) v (λ o low. omega arith) (octets_fit v c.fits-octets.1))

pub characters-low-requires : goal.characters-low-requires
characters-low-requires c =
    let v = c.args.octets in
    rw (zip2_splat {Y = ℕ} {Z = ℕ} _ v 16 15 c.fits-octets.0) (map_below 256 16 (λ o. bit_and o 15) v (λ o low. omega (arith, and_le_r o 15)) (octets_fit v c.fits-octets.1))

pub returns-clause-text : goal.returns-clause-text
returns-clause-text c =
    let v = c.args.octets in
    let a : ℕ → ℕ = slice_index base16.alphabet in
    let high : c.characters-high.result ≡ map (λ o. a (o / 16)) v = c.characters-high.ensures ∙ (ap (map a) (zip2_splat {Y = ℕ} {Z = ℕ} _ v 16 4 c.fits-octets.0) ∙ map-map a (λ o. o / 16) v) in
    let low : c.characters-low.result ≡ map (λ o. a (bit_and o 15)) v =
    c.characters-low.ensures ∙ (ap (map a) (zip2_splat {Y = ℕ} {Z = ℕ} _ v 16 15 c.fits-octets.0) ∙ map-map a (λ o. bit_and o 15) v) in
    interleaved (λ o. a (o / 16)) (λ o. a (bit_and o 15)) v _ _ c.fits-octets.0 high low ∙ digits_two a v (octets_fit v c.fits-octets.1)
