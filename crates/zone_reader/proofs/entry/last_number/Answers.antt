use Rattle.std.proofs.Common.{ℕ, ◌-◌, ◌++◌, ◌∙◌, length, take, ap, sym}
use Rattle.std.proofs.lemmas.List.{take-append-drop}
use Rattle.rdata_tokens.proofs.Pieces.{rest_of}
use Rattle.zone_reader.proofs.entry.last_number.Goals as goal

pub returns : goal.returns
returns c =
    let octets = c.args.octets.now in
    let at : ℕ = length octets - 4 in
    let cut = c.copy_from_slice.ensures.after ∙ rest_of at octets in
    (take at octets, c.copy_from_slice.new.self, sym (take-append-drop at octets) ∙ ap (λ l. take at octets ++ l) (sym cut), c.copy_from_slice.ensures.len, c.from_be_bytes.ensures)
