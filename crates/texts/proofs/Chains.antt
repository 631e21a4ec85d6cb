-- Texts written one behind the other.
use Rattle.std.proofs.Common.{◌≡◌, ℕ, ◌+◌, ◌≤◌, List, [], ◌++◌, length, take, drop, sym, refl, ap, ◌∙◌, subst, append_assoc, arith, length-append, length-drop}
use Rattle.std.proofs.lemmas.List.{take_at, drop_at, drop-drop, length-take-le, take-append-drop}
use Rattle.texts.specs.Buffers.{placed, Wrote}
use Rattle.std.specs.Borrow.{MutBor}
use Rattle.texts.specs.Writers.{Fronts, Puts, Room, buffer_of, place_of}
use Rattle.texts.specs.declared.writer.Writer.{Writer}

-- a buffer keeps its length
pub length-placed : (out : List ℕ) (at : ℕ) (text : List ℕ) → at + length text ≤ length out → length (placed out at text) ≡ length out
length-placed out at text fits =
    omega (arith, length-append (take at out) (text ++ drop (at + length text) out), length-append text (drop (at + length text) out), length-take-le at out (omega arith), length-drop (at + length text) out)

pub length_wrote : {old : List ℕ} {at : ℕ} {text new : List ℕ} {end : ℕ} → Wrote old at text new end → length new ≡ length old
length_wrote {old} {at} {text} {new} {end} w = ap length w.after ∙ length-placed old at text w.fits

-- nothing is written
pub none : (out : List ℕ) (at : ℕ) → at ≤ length out → Wrote out at [] out at
none out at h =
    let z : at + 0 ≡ at = omega arith in
    record { fits = omega arith; place = omega arith; after = sym (take-append-drop at out) ∙ ap (λ (k : ℕ). take at out ++ drop k out) (sym z) }

-- the same text under another name
pub same : {old : List ℕ} {at : ℕ} {a b new : List ℕ} {end : ℕ} → a ≡ b → Wrote old at a new end → Wrote old at b new end
same {old} {at} {a} {b} {new} {end} e = subst (λ (text : List ℕ). Wrote old at text new end) e

-- one text behind the other
pub then : {out : List ℕ} {at : ℕ} {a b o1 o2 : List ℕ} {p1 p2 : ℕ} → Wrote out at a o1 p1 → Wrote o1 p1 b o2 p2 → Wrote out at (a ++ b) o2 p2
then {out} {at} {a} {b} {o1} {o2} {p1} {p2} x y =
    let lt : length (take at out) ≡ at = length-take-le at out (omega (arith, x.fits)) in
    let rest = drop (at + length a) out in
    let front = take at out ++ a in
    let lf : length front ≡ p1 = omega (arith, length-append (take at out) a, x.place) in
    let e1 : o1 ≡ front ++ rest = x.after ∙ sym (append_assoc (take at out) a rest) in
    let t : take p1 o1 ≡ front = ap (take p1) e1 ∙ take_at front rest p1 lf in
    let d1 : drop p1 o1 ≡ rest = ap (drop p1) e1 ∙ drop_at front rest p1 lf in
    let d2 : drop (p1 + length b) o1 ≡ drop (at + length a + length b) out = sym (drop-drop (length b) p1 o1) ∙ ap (drop (length b)) d1 ∙ drop-drop (length b) (at + length a) out in
    let n : at + length a + length b ≡ at + length (a ++ b) = omega (arith, length-append a b) in
    record {
      fits = omega (arith, length-append a b, y.fits, length_wrote x, x.place);
      place = omega (arith, length-append a b, x.place, y.place);
      after = y.after
          ∙ ap (λ (z : List ℕ). z ++ (b ++ drop (p1 + length b) o1)) t
          ∙ ap (λ (z : List ℕ). front ++ (b ++ z)) d2
          ∙ append_assoc (take at out) a (b ++ drop (at + length a + length b) out)
          ∙ ap (λ (z : List ℕ). take at out ++ z) (sym (append_assoc a b (drop (at + length a + length b) out)))
          ∙ ap (λ (k : ℕ). take at out ++ ((a ++ b) ++ drop k out)) n;
    }

-- the same of writers
pub puts_then : {w v u : Writer} {a b : List ℕ} → Puts w a v → Puts v b u → Puts w (a ++ b) u
puts_then x y = record { buffer = y.buffer ∙ x.buffer; wrote = then x.wrote y.wrote }

pub puts_same : {w v : Writer} {a b : List ℕ} → a ≡ b → Puts w a v → Puts w b v
puts_same e x = record { buffer = x.buffer; wrote = same e x.wrote }

-- what is left to write has room where the whole had
pub room_after : {w v : Writer} (a b : List ℕ) {whole : List ℕ} → whole ≡ a ++ b → Room w whole → Puts w a v → Room v b
room_after {w} {v} a b {whole} e r p = omega (arith, r, ap length e, length-append a b, p.wrote.place, length_wrote p.wrote)

-- What a loop that writes keeps: what is left of the whole text fits, and whatever writes it, wrote the whole.
pub record Writing (from : Writer) (whole : List ℕ) (w : Writer) (left : List ℕ) : Type 0 where
  pub room : Room w left
  pub go : (new : Writer) → Puts w left new → Puts from whole new

pub writing_begin : (from : Writer) (whole : List ℕ) → Room from whole → Writing from whole from whole
writing_begin from whole room = record { room = room; go = λ new w. w }

pub writing_more : {from w new : Writer} {whole left : List ℕ} (a b : List ℕ) → left ≡ a ++ b → Writing from whole w left → Puts w a new → Writing from whole new b
writing_more {from} {w} {new} {whole} {left} a b e v p = record { room = room_after a b e v.room p; go = λ o x. v.go o (puts_same (sym e) (puts_then p x)) }

pub writing_done : {from w : Writer} {whole left : List ℕ} → left ≡ [] → Writing from whole w left → Puts from whole w
writing_done {from} {w} {whole} {left} e v = v.go w (puts_same (sym e) (record { buffer = refl; wrote = none w.out.now w.place w.within }))

-- what a writer has written that began at the front
placed_first : (old out text : List ℕ) (at n : ℕ) → at ≡ 0 → old ≡ out → n ≡ length text → placed old at text ≡ text ++ drop n out
placed_first old out text at n z e l =
    let k : at + length text ≡ n = omega arith in
    rw (k, z, e) refl

pub fronted_by : {out : MutBor (List ℕ)} {first last : Writer} {text : List ℕ} (n : ℕ) → n ≡ length text → Fronts out first → Puts first text last
    → buffer_of last ≡ text ++ drop n out.now
fronted_by {out} {first} {last} {text} n e f p = p.wrote.after ∙ placed_first (buffer_of first) out.now text (place_of first) n f.place f.bytes e
