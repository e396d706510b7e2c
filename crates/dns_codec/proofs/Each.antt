-- Facts about each of the three encodings.
use Rattle.std.proofs.Common.{◌≡◌, ℕ, ◌<◌, List, inl, inr}
use Rattle.std.specs.List.{AllByRecursion}
use Rattle.dns_codec.specs.Base.{Base, IsEncoding, encoded}
use Rattle.dns_codec.specs.Grammar.{Decodes}
use Rattle.dns_codec.proofs.Numbers.{numbers}
use Rattle.dns_codec.proofs.RoundTrip.{encoded16-decodes, encoded32-decodes, encoded64-decodes}
use Rattle.dns_codec.proofs.Unique.{one_value}

pub decodes : (b : Base) → IsEncoding b → (octets : List ℕ) → AllByRecursion (λ x. x < 256) octets → Decodes b (encoded b octets) octets
decodes b (inl is) = rw is encoded16-decodes
decodes b (inr (inl is)) = rw is encoded32-decodes
decodes b (inr (inr is)) = rw is encoded64-decodes

pub once : (b : Base) → IsEncoding b → (text xs ys : List ℕ) → Decodes b text xs → Decodes b text ys → xs ≡ ys
once b known = one_value b (numbers b known).no_mark
