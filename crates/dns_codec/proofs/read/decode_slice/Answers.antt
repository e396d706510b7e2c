use Rattle.std.proofs.Common.{◌≡◌, ◌%◌, sym, ap, ◌∙◌, arith, length}
use Rattle.dns_codec.specs.Base.{Base}
use Rattle.dns_codec.proofs.Known.{unit_one, is_base64}
use Rattle.dns_codec.proofs.Numbers.{numbers}
use Rattle.dns_codec.proofs.SliceTexts.{plain_read, plain_refused, padded_uneven, is_read, is_refused, may_end_of}
use Rattle.dns_codec.proofs.read.decode_slice.Goals as goal

pub returns-then-not-rules-clause-read : goal.returns-then-not-rules-clause-read
returns-then-not-rules-clause-read g c =
    let b = g.K.Encoding.base in
    let known = g.met.K.Encoding.known in
    let unit = unit_one b known (sym c.rules.ensures.is_padded ∙ c.if-not-rules.true) in
    let ends = may_end_of b (length c.args.text.now) (numbers b known).some (rw (c.CHARS-size.ensures, g.met.K.Encoding.shape.chars_are) at (sym c.may_end.ensures ∙ c.if-not-may_end.false)) in
    plain_read b g.K.Encoding.table g.met.K.Encoding.values_are (numbers b known).below unit c.args.text.now c.read_text.new.octets c.read_text.result (λ k. let fits = c.type_inv.text k in
    omega arith) ends (rw g.met.K.Encoding.shape.bits_are at c.read_text.ensures.read)

pub returns-then-not-rules-clause-refused : goal.returns-then-not-rules-clause-refused
returns-then-not-rules-clause-refused g c =
    let b = g.K.Encoding.base in
    let known = g.met.K.Encoding.known in
    let unit = unit_one b known (sym c.rules.ensures.is_padded ∙ c.if-not-rules.true) in
    plain_refused b g.K.Encoding.table g.met.K.Encoding.values_are (numbers b known).below unit c.args.text.now _ c.read_text.result (λ k. let fits = c.type_inv.text k in
    omega arith) (rw g.met.K.Encoding.shape.bits_are at c.read_text.ensures.refused)

pub returns-then-text-size-ne0-clause-refused : goal.returns-then-text-size-ne0-clause-refused
returns-then-text-size-ne0-clause-refused g c = λ v d.
    let b = g.K.Encoding.base in
    let is = is_base64 b g.met.K.Encoding.known (sym c.rules.ensures.is_padded ∙ c.if-not-rules.false) in
    let four : c.CHARS-size.result ≡ 4 = c.CHARS-size.ensures ∙ g.met.K.Encoding.shape.chars_are ∙ ap (λ (x : Base). x.group) is in
    let uneven = rw four at c.if-text-size-ne0.true in
    absurd (padded_uneven b is g.K.Encoding.BITS g.K.Encoding.table g.met.K.Encoding.shape.bits_are g.met.K.Encoding.values_are c.args.text.now v (λ even. omega arith) d)

pub returns-clause-read : goal.returns-clause-read
returns-clause-read g c =
    let b = g.K.Encoding.base in
    let is = is_base64 b g.met.K.Encoding.known (sym c.rules.ensures.is_padded ∙ c.if-not-rules.false) in
    let four : c.CHARS-size.result ≡ 4 = c.CHARS-size.ensures ∙ g.met.K.Encoding.shape.chars_are ∙ ap (λ (x : Base). x.group) is in
    let m = c.pad_count.ensures in
    let even : length c.args.text.now % 4 ≡ 0 = let h = rw four at c.if-text-size-ne0.false in omega arith in
    is_read b is g.K.Encoding.BITS g.K.Encoding.table g.met.K.Encoding.shape.bits_are g.met.K.Encoding.values_are c.args.text.now c.pad_count.result m.few m.within m.marks m.most (λ k. let fits =
    c.type_inv.text k in omega arith)
    c.read_text-2.result c.read_text-2.new.octets even c.read_text-2.ensures.read

pub returns-clause-refused : goal.returns-clause-refused
returns-clause-refused g c =
    let b = g.K.Encoding.base in
    let is = is_base64 b g.met.K.Encoding.known (sym c.rules.ensures.is_padded ∙ c.if-not-rules.false) in
    let m = c.pad_count.ensures in
    is_refused b is g.K.Encoding.BITS g.K.Encoding.table g.met.K.Encoding.shape.bits_are g.met.K.Encoding.values_are c.args.text.now c.pad_count.result m.few m.within m.marks m.most
    (λ k. let fits = c.type_inv.text k in omega arith)
    c.read_text-2.result _ c.read_text-2.ensures.refused
