-- `writing::write_record` meets its contract: a length, a kind and numbers, written one after the other, are a record.
use Rattle.std.proofs.Common.{arith}
use Rattle.writing.proofs.Stores.{written}
use Rattle.writing.proofs.write_record.Goals as goal

pub returns-clause-written : goal.returns-clause-written
returns-clause-written c =
    written _ _ _ _ _ _ (omega arith) c.write_u16.ensures c.write_u16-2.ensures c.write_numbers.ensures
