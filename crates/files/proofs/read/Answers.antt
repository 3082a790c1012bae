use Rattle.std.proofs.Common.{rules, ◌≡◌, ◌+◌, ◌≤◌, ◌++◌, ℕ, List, length, take, sym, subst}
use Rattle.std.specs.declared.option.Option.{Option}
use Rattle.std.specs.Io.KnownBytes.{Consumes}
use Rattle.std.proofs.KnownBytes.{Consumes-trans}
use Rattle.std.proofs.Math.Seq.{take-append-add}
use Rattle.std.proofs.lemmas.List.{length-take-le, take-append-le}
use borrow.Rule.Slice.PartMut.{post_of, put_mid}
use Rattle.files.proofs.read.Goals as goal

-- what stands in the buffer after one read more
take_more : (n m k : ℕ) (old new : List ℕ) → n ≤ length old → m ≤ length new → take (n + m) (put_mid n k old new) ≡ take n old ++ take m new
take_more n m k old new within fits =
    let rest = post_of n k old in
    let front = length-take-le n old within in
    let joined = take-append-add (take n old) (new ++ rest) m in
    let back = take-append-le m new rest fits in
    cc

-- what was read before, and then one read more
read_more : (a b c : Option (List ℕ)) (n m k : ℕ) (old new : List ℕ) → n ≤ length old → m ≤ length new
    → Consumes a b (take n old) → Consumes b c (take m new) → Consumes a c (take (n + m) (put_mid n k old new))
read_more a b c n m k old new within fits before more =
    subst (Consumes a c) (sym (take_more n m k old new within fits)) (Consumes-trans a b c (take n old) (take m new) before more)

pub loop-count-preserved : goal.loop-count-preserved
loop-count-preserved g c =
    let fits = c.in-Ok.ensures.bound.0 in
    (search rules, read_more _ _ _ c.loop-count.count c.in-Ok.more _ c.loop-count.buffer c.read.new.buf c.loop-count.invariant.0 fits c.loop-count.invariant.1 c.in-Ok.ensures.bytes.0)
