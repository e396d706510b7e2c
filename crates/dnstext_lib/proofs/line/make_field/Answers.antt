use Rattle.std.proofs.Common.{subst, sym, refl, Some, Ok, Err, [], ◌∷◌}
use Rattle.std.proofs.lemmas.Iterator.Adapters.{YieldsList-from_once}
use Rattle.std.proofs.lemmas.Result.{err_from_is_err_and}
use Rattle.dns_codec.specs.Base.{base16, base64}
use Rattle.dns_octets.specs.Room.{of_memory}
use Rattle.dns_zone.specs.EntryFields.{number, hex_octets, base64_octets, text_octets}
use Rattle.dns_symbol.specs.Cause.{Cause}
use Rattle.dns_scan.specs.Numbers.{greatest}
use Rattle.dns_scan.proofs.Whole.{of_first}
use Rattle.dnstext_lib.specs.EntryLine.{FieldHolds, NoField}
use Rattle.dns_scan.specs.StrError.{str_cause}
use Rattle.dns_zone.proofs.EntryConverting.{base_answer}
use Rattle.dnstext_lib.proofs.Fielding.{number_held, text_held, octets_stop}
use Rattle.dnstext_lib.proofs.Printing.{number_refused, charstr_stops}
use Rattle.dns_iter.proofs.Roads.{texts_from}
use Rattle.dnstext_lib.proofs.line.make_field.Goals as goal

pub returns-in_ok-scan-in-Number : goal.returns-in_ok-scan-in-Number
returns-in_ok-scan-in-Number g c =
    let road = YieldsList-from_once (Some c.args.text) c.once.ensures.item in
    subst (λ k. FieldHolds k c.args.text.now (number c.in_ok-scan-in-Number.field-0)) (sym c.in-Number.is)
    (number_held {E = Cause} (λ why. why) (greatest 32) c.args.text.now c.in_ok-scan-in-Number.field-0
    (c.in_ok-scan-in-Number.ensures.reads (c.args.text.now ∷ []) (c.new-scanner.ensures.stands _ (texts_from road))).1.0)

pub returns-in_err-scan-in-Number : goal.returns-in_err-scan-in-Number
returns-in_err-scan-in-Number g c =
    let road = YieldsList-from_once (Some c.args.text) c.once.ensures.item in
    let p = err_from_is_err_and c.from_residual.result c.from_residual.ensures.1 in
    rw (p.1, p.2) (subst (λ k. NoField k c.args.text.now (str_cause c.in_err-scan-in-Number.field-0.0)) (sym c.in-Number.is)
    (number_refused {E = Cause} (λ why. why) (greatest 32) c.args.text.now (str_cause c.in_err-scan-in-Number.field-0.0)
    (c.in_err-scan-in-Number.ensures.reads (c.args.text.now ∷ []) (c.new-scanner.ensures.stands _ (texts_from road))).1.0))

pub returns-in_ok-octets-in-Hex : goal.returns-in_ok-octets-in-Hex
returns-in_ok-octets-in-Hex g c =
    let road = YieldsList-from_once (Some c.args.text) c.once.ensures.item in
    subst (λ k. FieldHolds k c.args.text.now (hex_octets c.in_ok-octets-in-Hex.octets.items)) (sym c.in-Hex.is) (
      _,
      (base_answer str_cause of_memory base16 (λ v. v.items) c.args.text.now c.new.result (Ok c.in_ok-octets-in-Hex.octets) c.new.ensures
          (of_first _ _ _ _ _ _ _ [] (c.new-scanner.ensures.stands _ (texts_from road)) c.in_ok-octets-in-Hex.ensures.scans).0).2.0,
      refl,
    )

pub returns-in_err-octets-in-Hex : goal.returns-in_err-octets-in-Hex
returns-in_err-octets-in-Hex g c =
    let road = YieldsList-from_once (Some c.args.text) c.once.ensures.item in
    let p = err_from_is_err_and c.from_residual-in_err-octets-in-Hex.result c.from_residual-in_err-octets-in-Hex.ensures.1 in
    rw (p.1, p.2) (subst (λ k. NoField k c.args.text.now (str_cause c.in_err-octets-in-Hex.field-0.0)) (sym c.in-Hex.is)
    (octets_stop _ _ _ (base_answer str_cause of_memory base16 (λ v. v.items) c.args.text.now c.new.result (Err c.in_err-octets-in-Hex.field-0.0) c.new.ensures
    (of_first _ _ _ _ _ _ _ [] (c.new-scanner.ensures.stands _ (texts_from road)) c.in_err-octets-in-Hex.ensures.scans).0)))

pub returns-in_ok-octets-in-Base64 : goal.returns-in_ok-octets-in-Base64
returns-in_ok-octets-in-Base64 g c =
    let road = YieldsList-from_once (Some c.args.text) c.once.ensures.item in
    subst (λ k. FieldHolds k c.args.text.now (base64_octets c.in_ok-octets-in-Base64.octets.items)) (sym c.in-Base64.is) (
      _,
      (base_answer str_cause of_memory base64 (λ v. v.items) c.args.text.now c.new-in-Base64.result (Ok c.in_ok-octets-in-Base64.octets) c.new-in-Base64.ensures
          (of_first _ _ _ _ _ _ _ [] (c.new-scanner.ensures.stands _ (texts_from road)) c.in_ok-octets-in-Base64.ensures.scans).0).2.0,
      refl,
    )

pub returns-in_err-octets-in-Base64 : goal.returns-in_err-octets-in-Base64
returns-in_err-octets-in-Base64 g c =
    let road = YieldsList-from_once (Some c.args.text) c.once.ensures.item in
    let p = err_from_is_err_and c.from_residual-in_err-octets-in-Base64.result c.from_residual-in_err-octets-in-Base64.ensures.1 in
    rw (p.1, p.2) (subst (λ k. NoField k c.args.text.now (str_cause c.in_err-octets-in-Base64.field-0.0)) (sym c.in-Base64.is)
    (octets_stop _ _ _ (base_answer str_cause of_memory base64 (λ v. v.items) c.args.text.now c.new-in-Base64.result (Err c.in_err-octets-in-Base64.field-0.0) c.new-in-Base64.ensures
    (of_first _ _ _ _ _ _ _ [] (c.new-scanner.ensures.stands _ (texts_from road)) c.in_err-octets-in-Base64.ensures.scans).0)))

pub returns-in_ok-scan_charstr-in-Text : goal.returns-in_ok-scan_charstr-in-Text
returns-in_ok-scan_charstr-in-Text g c =
    let road = YieldsList-from_once (Some c.args.text) c.once.ensures.item in
    subst (λ k. FieldHolds k c.args.text.now (text_octets c.in_ok-scan_charstr-in-Text.field-0)) (sym c.in-Text.is)
    (text_held str_cause of_memory c.args.text.now c.in_ok-scan_charstr-in-Text.field-0
    (of_first _ _ _ _ _ _ _ [] (c.new-scanner.ensures.stands _ (texts_from road)) c.in_ok-scan_charstr-in-Text.ensures.scans).0)

pub returns-in_err-scan_charstr-in-Text : goal.returns-in_err-scan_charstr-in-Text
returns-in_err-scan_charstr-in-Text g c =
    let road = YieldsList-from_once (Some c.args.text) c.once.ensures.item in
    let p = err_from_is_err_and c.from_residual-in_err-scan_charstr-in-Text.result c.from_residual-in_err-scan_charstr-in-Text.ensures.1 in
    rw (p.1, p.2) (subst (λ k. NoField k c.args.text.now (str_cause c.in_err-scan_charstr-in-Text.field-0.0)) (sym c.in-Text.is)
    (charstr_stops str_cause of_memory c.args.text.now c.in_err-scan_charstr-in-Text.field-0.0
    (of_first _ _ _ _ _ _ _ [] (c.new-scanner.ensures.stands _ (texts_from road)) c.in_err-scan_charstr-in-Text.ensures.scans).0))
