-- Bytes between two places, with fewer at the front or more at the end.
use Rattle.std.proofs.Common.{◌≡◌, ℕ, ◌+◌, ◌-◌, ◌≤◌, List, ◌++◌, length, take, drop, ap, sym, ◌∙◌, arith}
use Rattle.std.proofs.Math.Seq.{take-append-add}
use Rattle.std.proofs.lemmas.List.{drop-take, drop-drop, length-take, length-take-le, take-append-le}
use borrow.Rule.Slice.PartMut.{put_mid, post_of}
use Rattle.feed_core.specs.Rests.{between}

-- fewer at the front
pub between-drop : (bytes : List ℕ) (start end count : ℕ) → count ≤ length (between bytes start end)
    → between bytes (start + count) end ≡ drop count (between bytes start end)
between-drop bytes start end count within =
    let less : length (take (end - start) (drop start bytes)) ≤ end - start = omega (arith, length-take (end - start) (drop start bytes)) in
    let parts : end - start ≡ count + (end - (start + count)) = omega (arith, less, within) in
    ap (take (end - (start + count))) (sym (drop-drop count start bytes))
    ∙ sym (drop-take count (end - (start + count)) (drop start bytes))
    ∙ ap (λ n. drop count (take n (drop start bytes))) (sym parts)

-- a piece behind them, if they begin at the front of their place
between-front : (bytes out : List ℕ) (end room count : ℕ) → end ≤ length bytes → count ≤ length out
    → between (put_mid end room bytes out) 0 (end + count) ≡ between bytes 0 end ++ take count out
between-front bytes out end room count within fits =
    let behind : List ℕ = out ++ post_of end room bytes in
    let long : length (take end bytes) ≡ end = length-take-le end bytes within in
    let none : end + count - 0 ≡ length (take end bytes) + count = omega (arith, long) in
    let same : end - 0 ≡ end = omega arith in
    ap (λ n. take n (take end bytes ++ behind)) none
    ∙ take-append-add (take end bytes) behind count
    ∙ ap (λ xs. take end bytes ++ xs) (take-append-le count out (post_of end room bytes) fits)
    ∙ ap (λ n. take n bytes ++ take count out) (sym same)

pub between-piece : (bytes out : List ℕ) (start end room count : ℕ) → start ≡ 0 → end ≤ length bytes → count ≤ length out
    → between (put_mid end room bytes out) start (end + count) ≡ between bytes start end ++ take count out
between-piece bytes out start end room count front within fits =
    ap (λ s. between (put_mid end room bytes out) s (end + count)) front
    ∙ between-front bytes out end room count within fits
    ∙ ap (λ s. between bytes s end ++ take count out) (sym front)
