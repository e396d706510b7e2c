use Rattle.std.proofs.Common.{◌≡◌, ◌≤◌, take}
use Rattle.dns_codec.specs.Base.{base64}
use Rattle.dns_codec.specs.Outcome.{pad_count}
use Rattle.c_calls.proofs.codecs.count_marks.Given as goal

abbrev pub invariant-loop-octet : goal.invariant-loop-octet
invariant-loop-octet l = record {
  value : l.count ≡ pad_count base64 (take l.octet-index l.text);
  few : l.count ≤ l.octet-index;
}
