use Rattle.std.proofs.Common.{◌≡◌, ℕ, ◌*◌, ◌<◌, get_or, sym, ◌∙◌, refl, arith}
use Rattle.dns_codec.specs.Base.{base16, base64}
use Rattle.dns_codec.specs.Tables.{table16, table64}
use Rattle.dns_codec.specs.declared.read.TheConstants.{VALUES16, VALUES64}
use Rattle.dns_codec.proofs.VectorKinds.{read_as, shape16, shape64}
use Rattle.dns_codec.proofs.Wholes.{whole-nil}
use Rattle.dns_codec.proofs.lanes.read_vectors.Goals as goal

pub returns-in-4-clause-values : goal.returns-in-4-clause-values
returns-in-4-clause-values g c =
    let known : g.K.Encoding.BITS ≡ 4 = sym c.BITS.ensures ∙ c.in-4.is in
    let s = shape16 g.K.Encoding.base g.K.Encoding.BITS g.K.Encoding.CHARS g.K.Encoding.OCTETS g.met.K.Encoding.known g.met.K.Encoding.shape known in
    let e : c.read.result * g.K.Encoding.CHARS ≡ c.read.result * 2 = rw s.1 refl in
    let f : c.read.result * g.K.Encoding.OCTETS ≡ c.read.result = rw s.2 (omega arith) in
    let bytes : (k : ℕ) → get_or c.args.text.now k 0 < 256 = λ k. (let fits = c.type_inv.text k in omega arith) in
    let read = c.read.ensures in
    let both = read_as g.K.Encoding.base base16 VALUES16 g.K.Encoding.table g.K.Encoding.BITS (c.read.result * 2) c.read.result c.args.text.now c.read.new.octets s.0 table16
    g.met.K.Encoding.values_are known bytes read.values read.octets in
    rw e both.0

pub returns-in-4-clause-octets : goal.returns-in-4-clause-octets
returns-in-4-clause-octets g c =
    let known : g.K.Encoding.BITS ≡ 4 = sym c.BITS.ensures ∙ c.in-4.is in
    let s = shape16 g.K.Encoding.base g.K.Encoding.BITS g.K.Encoding.CHARS g.K.Encoding.OCTETS g.met.K.Encoding.known g.met.K.Encoding.shape known in
    let e : c.read.result * g.K.Encoding.CHARS ≡ c.read.result * 2 = rw s.1 refl in
    let f : c.read.result * g.K.Encoding.OCTETS ≡ c.read.result = rw s.2 (omega arith) in
    let bytes : (k : ℕ) → get_or c.args.text.now k 0 < 256 = λ k. (let fits = c.type_inv.text k in omega arith) in
    let read = c.read.ensures in
    let both = read_as g.K.Encoding.base base16 VALUES16 g.K.Encoding.table g.K.Encoding.BITS (c.read.result * 2) c.read.result c.args.text.now c.read.new.octets s.0 table16
    g.met.K.Encoding.values_are known bytes read.values read.octets in
    rw (e, f) both.1

pub returns-in-6-clause-values : goal.returns-in-6-clause-values
returns-in-6-clause-values g c =
    let known : g.K.Encoding.BITS ≡ 6 = sym c.BITS.ensures ∙ c.in-6.is in
    let s = shape64 g.K.Encoding.base g.K.Encoding.BITS g.K.Encoding.CHARS g.K.Encoding.OCTETS g.met.K.Encoding.known g.met.K.Encoding.shape known in
    let e : c.read-in-6.result * g.K.Encoding.CHARS ≡ c.read-in-6.result * 4 = rw s.1 refl in
    let f : c.read-in-6.result * g.K.Encoding.OCTETS ≡ c.read-in-6.result * 3 = rw s.2 (omega arith) in
    let bytes : (k : ℕ) → get_or c.args.text.now k 0 < 256 = λ k. (let fits = c.type_inv.text k in omega arith) in
    let read = c.read-in-6.ensures in
    let both = read_as g.K.Encoding.base base64 VALUES64 g.K.Encoding.table g.K.Encoding.BITS (c.read-in-6.result * 4) (c.read-in-6.result * 3) c.args.text.now c.read-in-6.new.octets s.0 table64
    g.met.K.Encoding.values_are known bytes read.values read.octets in
    rw e both.0

pub returns-in-6-clause-octets : goal.returns-in-6-clause-octets
returns-in-6-clause-octets g c =
    let known : g.K.Encoding.BITS ≡ 6 = sym c.BITS.ensures ∙ c.in-6.is in
    let s = shape64 g.K.Encoding.base g.K.Encoding.BITS g.K.Encoding.CHARS g.K.Encoding.OCTETS g.met.K.Encoding.known g.met.K.Encoding.shape known in
    let e : c.read-in-6.result * g.K.Encoding.CHARS ≡ c.read-in-6.result * 4 = rw s.1 refl in
    let f : c.read-in-6.result * g.K.Encoding.OCTETS ≡ c.read-in-6.result * 3 = rw s.2 (omega arith) in
    let bytes : (k : ℕ) → get_or c.args.text.now k 0 < 256 = λ k. (let fits = c.type_inv.text k in omega arith) in
    let read = c.read-in-6.ensures in
    let both = read_as g.K.Encoding.base base64 VALUES64 g.K.Encoding.table g.K.Encoding.BITS (c.read-in-6.result * 4) (c.read-in-6.result * 3) c.args.text.now c.read-in-6.new.octets s.0 table64
    g.met.K.Encoding.values_are known bytes read.values read.octets in
    rw (e, f) both.1

pub returns-in_default-clause-octets : goal.returns-in_default-clause-octets
returns-in_default-clause-octets g c =
    let e : 0 * g.K.Encoding.CHARS ≡ 0 = omega arith in
    let f : 0 * g.K.Encoding.OCTETS ≡ 0 = omega arith in
    rw (e, f) (sym (whole-nil g.K.Encoding.BITS))

pub returns-in_default-2-clause-octets : goal.returns-in_default-2-clause-octets
returns-in_default-2-clause-octets g c =
    let e : 0 * g.K.Encoding.CHARS ≡ 0 = omega arith in
    let f : 0 * g.K.Encoding.OCTETS ≡ 0 = omega arith in
    rw (e, f) (sym (whole-nil g.K.Encoding.BITS))
