-- Laws of lines: a stretch of a stretch, what stands in front of a trimmed text, and the parts of a source between its LFs.
use Rattle.std.proofs.Common.{◌≡◌, refl, ◌∙◌, ap, inl, inr, ◌⊎◌, ⊎_elim, Bool, true, false, cond, List, [], ◌∷◌, ◌++◌, ℕ, zero, suc, ◌+◌, ◌-◌, ◌≤◌, ◌<◌, not-suc-le-zero, arith, eqb, length, take, drop, length-drop, length-take-le, drop-drop}
use Rattle.std.specs.List.{slice_split, onto_first}
use lib.Seq.{take-take, take-nil}
use Rattle.scan.specs.declared.class.Class.{Class}
use Rattle.scan.specs.declared.class.Class.TheVariants.{Is}
use Rattle.scan.specs.Class.{passes}
use Rattle.scan.specs.Scan.{first}
use Rattle.source.specs.declared.line.Span.{Span}
use Rattle.source.specs.Line.{lines_of, on_first, spanned}

inner : (n a e : ℕ) (l : List ℕ) → a + n ≤ e → take n (drop a (take e l)) ≡ take n (drop a l)
inner n zero e l h = take-take n e l (omega arith)
inner n (suc a) zero l h = absurd (not-suc-le-zero {n = a + n} (omega arith))
inner n (suc a) (suc e) [] h = refl
inner n (suc a) (suc e) (x ∷ l) h = inner n a e l (omega arith)

-- a stretch of the first e bytes of a stretch is a stretch of the whole
pub stretch :
    (n a e k f : ℕ) (l : List ℕ) → a + n ≤ e → e ≤ k →
    take n (drop a (take e (take k (drop f l)))) ≡ take n (drop (f + a) l)
stretch n a e k f l h g =
    inner n a e (take k (drop f l)) h ∙ (inner n a k (drop f l) (omega arith) ∙ ap (take n) (drop-drop a f l))

-- how long they are
pub span_length : (k f : ℕ) (l : List ℕ) → f + k ≤ length l → length (take k (drop f l)) ≡ k
span_length k f l h = length-take-le k (drop f l) (omega (arith, length-drop f l))

-- two stretches of one text that begin at one place and hold the same bytes are one: what `line` promises leaves no choice
pub span_one :
    (raw : List ℕ) (r s : Span) → spanned r raw ≡ spanned s raw → r.from ≡ s.from → r.from ≤ r.to → s.from ≤ s.to →
    r.to ≤ length raw → s.to ≤ length raw → r ≡ s
span_one raw r s same from r-in s-in r-end s-end =
    let r-size = span_length (r.to - r.from) r.from raw (omega arith) in
    let s-size = span_length (s.to - s.from) s.from raw (omega arith) in
    let to : r.to ≡ s.to = omega (arith, r-size, s-size, ap length same, from) in
    λ i. record { from = from i; to = to i }

-- a place in the first e bytes of a stretch lies in those, and they in the stretch
pub within :
    (l : List ℕ) (f t e i : ℕ) → f ≤ t → t ≤ length l → e ≤ length (take (t - f) (drop f l)) →
    i ≤ length (take e (take (t - f) (drop f l))) → (i ≤ e) × (e ≤ t - f)
within l f t e i from to end at =
    let size : length (take (t - f) (drop f l)) ≡ t - f = span_length (t - f) f l (omega arith) in
    let cut : length (take e (take (t - f) (drop f l))) ≡ e = length-take-le e (take (t - f) (drop f l)) end in
    (omega (arith, cut, at), omega (arith, size, end))

-- what begins at the first byte of a class begins with one, however it is cut
begins : (c : Class) (b : ℕ) (bs : List ℕ) (e k : ℕ) → passes c b ≡ true → first c (take e (take k (b ∷ bs))) ≡ 0
unfolding first
begins c b bs e zero p = rw (take-nil {A = ℕ} e)
begins c b bs zero (suc k) p = refl
begins c b bs (suc e) (suc k) p = rw p

begins_first : (c : Class) (l : List ℕ) (e k : ℕ) → first c (take e (take k (drop (first c l) l))) ≡ 0
unfolding first
begins_first c [] e k = rw (take-nil {A = ℕ} k, take-nil {A = ℕ} e)
begins_first c (b ∷ bs) e k = either (passes c b) refl (begins_first c bs e k)
  where
    either :
        (here : Bool) → passes c b ≡ here → first c (take e (take k (drop (first c bs) bs))) ≡ 0 →
        first c (take e (take k (drop (cond here 0 (suc (first c bs))) (b ∷ bs)))) ≡ 0
    either true p there = begins c b bs e k p
    either false p there = there

pub begins_there :
    (c : Class) (l : List ℕ) (i e k : ℕ) → i ≡ first c l → first c (take e (take k (drop i l))) ≡ 0
begins_there c l i e k at = ap (λ i. first c (take e (take k (drop i l)))) at ∙ begins_first c l e k

-- the parts between the LFs of a source are its lines, and where it is empty or ends with an LF an empty one behind them
pub lines_parted :
    (s : List ℕ) →
    (slice_split (λ b. eqb b 0x0a) s ≡ lines_of s) ⊎ (slice_split (λ b. eqb b 0x0a) s ≡ lines_of s ++ ([] ∷ []))
unfolding lines_of
lines_parted [] = inr refl
lines_parted (b ∷ bs) = by (eqb b 0x0a) (slice_split (λ b. eqb b 0x0a) bs) (lines_of bs) (lines_parted bs)
  where
    by :
        (ends : Bool) (parts lines : List (List ℕ)) → (parts ≡ lines) ⊎ (parts ≡ lines ++ ([] ∷ [])) →
        (cond ends ([] ∷ parts) (onto_first b parts) ≡ cond ends ([] ∷ lines) (on_first b lines))
        ⊎ (cond ends ([] ∷ parts) (onto_first b parts) ≡ cond ends ([] ∷ lines) (on_first b lines) ++ ([] ∷ []))
    by true parts lines same = ⊎_elim (λ e. inl (ap (λ l. [] ∷ l) e)) (λ e. inr (ap (λ l. [] ∷ l) e)) same
    by false parts [] same = inl (⊎_elim (λ e. ap (onto_first b) e) (λ e. ap (onto_first b) e) same)
    by false parts (line ∷ lines) same = ⊎_elim (λ e. inl (ap (onto_first b) e)) (λ e. inr (ap (onto_first b) e)) same

-- Laws that stand for themselves: the first line of a source goes to its first LF, and the others begin behind that.
pub first_line :
    (s : List ℕ) → 0 < length s →
    lines_of s ≡ take (first (Is 0x0a) s) s ∷ lines_of (drop (first (Is 0x0a) s + 1) s)
unfolding lines_of first passes
first_line [] h = absurd (not-suc-le-zero h)
first_line (b ∷ []) h = alone (eqb b 0x0a)
  where
    alone :
        (ends : Bool) →
        cond ends ([] ∷ []) ((b ∷ []) ∷ []) ≡ take (cond ends 0 1) (b ∷ []) ∷ lines_of (drop (cond ends 0 1 + 1) (b ∷ []))
    alone true = refl
    alone false = refl
first_line (b ∷ c ∷ cs) h = either (eqb b 0x0a) (first_line (c ∷ cs) (omega arith))
  where
    k : ℕ
    k = first (Is 0x0a) (c ∷ cs)

    either :
        (ends : Bool) → lines_of (c ∷ cs) ≡ take k (c ∷ cs) ∷ lines_of (drop (k + 1) (c ∷ cs)) →
        cond ends ([] ∷ lines_of (c ∷ cs)) (on_first b (lines_of (c ∷ cs))) ≡
        take (cond ends 0 (suc k)) (b ∷ c ∷ cs) ∷ lines_of (drop (cond ends 0 (suc k) + 1) (b ∷ c ∷ cs))
    either true more = refl
    either false more = let next : suc k + 1 ≡ suc (k + 1) = omega arith in rw (next, more)
