use Rattle.std.proofs.Common.{◌≡◌, ◌≤◌, take}
use Rattle.std.specs.List.{filter}
use Rattle.arrayvec.specs.ArrayVec.{array_vec_len}
use Rattle.mail_texts.specs.Tags.{is_not_fws}
use Rattle.mail_texts.proofs.dkim.without_fws.Given as goal

abbrev pub invariant-loop-octet : goal.invariant-loop-octet
invariant-loop-octet l = (l.found.items ≡ filter is_not_fws (take l.octet-index l.value)) × (array_vec_len l.found ≤ l.octet-index)
