-- The parts of a packed answer come back, as include/standby.h takes them out: bits 0-7, bits 8-31, bits 32-63. Assumes nothing.
use Prim.Native.Nat.{◌/◌, ◌%◌, ◌<◌}
use mathlib.Core.Path.{◌≡◌}
use native.Mathlib.Omega.{arith}
use Rattle.model.specs.declared.Numbers.{Numbers}
use Rattle.service.specs.Packing.{packed}

module _ (n : Numbers) (number_fits : n.number < 256) (first_fits : n.first < 16777216) where
  pub number_back : packed n % 256 ≡ n.number
  number_back = omega arith

  pub first_back : packed n / 256 % 16777216 ≡ n.first
  first_back = omega arith

  pub second_back : packed n / 4294967296 ≡ n.second
  second_back = omega arith
