-- Examples of what a visit comes to: a table that goes beyond memory, and numbers of packets.
use Rattle.std.specs.Prelude.{◌+◌, ◌*◌, ◌≡◌, refl, true, false, [], ◌∷◌}
use Rattle.readings.specs.declared.Outcome.TheVariants.{Value, BusError}
use Rattle.visit_course.specs.TableRead.{table_from, table_read, longwords_there}
use Rattle.visit_course.specs.PacketsStated.{packets_stated}

-- four longwords from 4 on, of fifteen bytes: two are there, and the third lacks its last byte
example_table : table_read 4 4 (0 ∷ 1 ∷ 2 ∷ 3 ∷ 4 ∷ 5 ∷ 6 ∷ 7 ∷ 8 ∷ 9 ∷ 10 ∷ 11 ∷ 12 ∷ 13 ∷ 14 ∷ []) ≡ Value 0x04050607 ∷ Value 0x08090A0B ∷ BusError ∷ []
unfolding table_from
example_table = refl

example_there : longwords_there 4 4 15 ≡ 2
example_there = refl

-- no table: a marker, 16 RDREG, 10 RCREG, CSR, a marker; and the same of a processor that runs
example_registers : packets_stated 1 true 0 0 ≡ 24 + 48 + 60 + 3 + 24
example_registers = refl

example_running : packets_stated 1 false 0 0 ≡ 24 + 26 * 26 + 3 + 24
example_running = refl

-- 4,096 longwords in 16 blocks
example_table_packets : packets_stated 1 true 4096 4096 ≡ 24 + 111 + (4096 * 4 + 16 * 26) + 24
example_table_packets = refl
