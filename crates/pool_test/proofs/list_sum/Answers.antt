-- The list is accepted, so the call returns the length of a record.
use Rattle.std.proofs.Common.{◌≡◌, ℤ, refl, arith, to_z, of_z, w32, ◌<◌}
use lib.Signed.{mag}
use mir.Facts.{to_z-of_z}
use Rattle.layout.specs.Layout.{bytes2, bytes4, all_bytes4, record_bytes}
use Rattle.pool_test.proofs.Start.{list-returned, returned-fits, returned-small}
use Rattle.pool_test.proofs.list_sum.Goals as goal

-- the number that the list call returned, as it is cast
as_returned : (a : ℤ) → mag a < 2147483648 → to_z w32 (of_z w32 a) ≡ a
as_returned a fits = to_z-of_z {w = w32} (record { sfits = fits })

pub overflow_cast-result : goal.overflow_cast-result
unfolding bytes2 bytes4 all_bytes4 record_bytes
overflow_cast-result c =
    returned-fits _ _ (as_returned _ c.c34_list_sum.type_inv)
    (list-returned _ _ _ _ _ c.curve-c.ensures refl (omega arith) c.c34_list_sum.ensures)

pub returns : goal.returns
unfolding bytes2 bytes4 all_bytes4 record_bytes
returns c =
    returned-small _ _ (as_returned _ c.c34_list_sum.type_inv)
    (list-returned _ _ _ _ _ c.curve-c.ensures refl (omega arith) c.c34_list_sum.ensures)
