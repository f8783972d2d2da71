use Rattle.std.proofs.Common.{◌≡◌, ◌+◌, ◌*◌, ◌<◌, ◌^◌, length, drop}
use Rattle.xheaac_tool.specs.Numbers.{are_digits, value_of}
use Rattle.xheaac_tool.proofs.numbers.read_number.Given as goal

-- Those before are digits, and with those to come the value is that of all.
abbrev pub invariant-loop-digit : goal.invariant-loop-digit
invariant-loop-digit l = record {
  value : l.value * 10 ^ length (drop l.digit-index l.digits) + value_of (drop l.digit-index l.digits) ≡ value_of l.digits;
  digits : are_digits l.digits ≡ are_digits (drop l.digit-index l.digits);
  small : l.value < 10 ^ l.digit-index;
}
