-- `bench_words::same_bytes` meets its contract. The loop's invariant: the bytes before place i agree.
use Prim.Native.Nat.{ℕ}
use mathlib.Core.Path.{ap}
use native.Mathlib.Omega.{arith}
use mathlib.Core.List.{List}
use mathlib.Core.Bool.{true≢false, false≢true}
use lib.Seq.{ext_get_or}
use lib.ListN.{length, get_or}
use borrow.Author.Count.{below_more}
use Rattle.bench_words.proofs.same_bytes.Goals as goal

pub returns-then-a-b : goal.returns-then-a-b
returns-then-a-b c = record { holds = λ e. absurd (false≢true e); fails = λ e s. c.if-a-b.true (ap length s) }

pub returns-then-a-i : goal.returns-then-a-i
returns-then-a-i c =
    let i = c.loop-i.i in
    record { holds = λ e. absurd (false≢true e); fails = λ e s. c.if-a-i.true (ap (λ (l : List ℕ). get_or l i 0) s) }

pub loop-i-preserved : goal.loop-i-preserved
loop-i-preserved c = below_more _ _ c.loop-i.invariant c.if-a-i.false

pub returns : goal.returns
returns c =
    let a = c.args in
    record {
      holds = λ e. ext_get_or 0 a.a.now a.b.now (omega arith) (λ k h. c.loop-i.invariant k (omega arith));
      fails = λ e. absurd (true≢false e);
    }
