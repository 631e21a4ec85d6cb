use Rattle.std.proofs.Common.{◌≡◌, ℕ, ◌<◌, true, List, [], ◌∷◌, length, is_some, Some, None, Err, Option, Result, MatchOption, sym, refl, ap, ◌∙◌, subst, arith, length-append}
use Rattle.std.specs.Option.{IsSomeAnd}
use borrow.Author.Tests.{clash}
use Rattle.texts.specs.Cuts.{FirstCut, Lacks}
use Rattle.texts.specs.Readers.{left_of, passed_of, RestLine, Passes}
use Rattle.texts.specs.declared.reader.Line.{Line}
use Rattle.texts.specs.declared.reader.Reader.{Reader}
use Rattle.vector_files.specs.declared.entry.Entry.{Entry}
use Rattle.vector_files.specs.declared.vector.Fault.{Fault}
use Rattle.vector_files.specs.declared.vector.Fault.TheVariants.{Unended}
use Rattle.vector_files.specs.declared.vector.Vector.{Vector}
use Rattle.vector_files.specs.Vectors.{ReadVector}
use Rattle.vector_files.specs.Entries.{Remark, NextEntry, ends, remark, line, unended}

-- what comes after the reader as it is comes after the reader as it was
pub record Still (was is : Reader) : Type 0 where
  pub then : (r : Option Entry) (later : ℕ) (left : List ℕ) → NextEntry (passed_of is) (left_of is) r later left → NextEntry (passed_of was) (left_of was) r later left

pub begin : (was : Reader) → Still was was
begin was = record { then = λ r later left e. e }

pub past_remark : (was is new : Reader) (l : Line) → Still was is → FirstCut 10 (left_of is) l.bytes.now (left_of new) → Passes is new l → Remark l.bytes.now → Still was new
past_remark was is new l s c p m = record
    { then = λ r later left e. s.then r later left (remark c m (subst (λ (n : ℕ). NextEntry n (left_of new) r later left) p.passed e)) }

-- the text left falls with each line
cut_shorter : (text part rest : List ℕ) → FirstCut 10 text part rest → length rest < length text
cut_shorter text part rest c = omega (arith, ap length c.whole, length-append part (10 ∷ rest))

pub shorter : (is new : Reader) (l : Line) → FirstCut 10 (left_of is) l.bytes.now (left_of new) → length (left_of new) < length (left_of is)
shorter is new l c = cut_shorter _ _ _ c

some_text : (text : List ℕ) → (text ≡ [] → ⊥) → 0 < length text
some_text [] n = absurd (n refl)
some_text (x ∷ xs) n = omega arith

-- and with each entry
pub entry_shorter : (passed later : ℕ) (text left : List ℕ) (r : Option Entry) → NextEntry passed text r later left → is_some r ≡ true → length left < length text
entry_shorter passed later text left r ends e = absurd (clash e)
entry_shorter passed later text left r (remark {rest = rest} c m n) e =
    omega (arith, cut_shorter _ _ _ c, entry_shorter _ later rest left r n e)
entry_shorter passed later text left r (line c _ _ _) e = cut_shorter _ _ _ c
entry_shorter passed later text left r (unended _ n _ _) e = some_text text n

-- the ways out
pub a_line : (was is new : Reader) (l : Line) (v : Result Vector Fault) → Still was is → FirstCut 10 (left_of is) l.bytes.now (left_of new) → Passes is new l
    → (Remark l.bytes.now → ⊥) → ReadVector l.bytes.now v
    → NextEntry (passed_of was) (left_of was) (Some (record { line = l.number; vector = v })) (passed_of new) (left_of new)
a_line was is new l v s c p n r =
    s.then _ (passed_of new) (left_of new)
    (subst (λ (k : ℕ). NextEntry (passed_of is) (left_of is) (Some (record { line = l.number; vector = v })) k (left_of new)) (sym p.passed) (line c n p.number r))

at_rest : (was is mid new : Reader) (l : Line) → Still was is → Lacks 10 (left_of is) → mid ≡ is → RestLine mid new (Some l)
    → NextEntry (passed_of was) (left_of was) (Some (record { line = l.number; vector = Err Unended })) (passed_of new) (left_of new)
at_rest was is mid new l s n same (some, b, e, p) =
    let r : Option Entry = Some (record { line = l.number; vector = Err Unended }) in
    let q : Passes is new l = subst (λ (x : Reader). Passes x new l) same p in
    let o : left_of is ≡ [] → ⊥ = subst (λ (x : Reader). left_of x ≡ [] → ⊥) same some in
    s.then r (passed_of new) (left_of new)
    (subst (λ (t : List ℕ). NextEntry (passed_of is) (left_of is) r (passed_of new) t) (sym e)
    (subst (λ (k : ℕ). NextEntry (passed_of is) (left_of is) r k []) (sym q.passed) (unended n o q.number refl)))

at_end : (was is mid new : Reader) → Still was is → mid ≡ is → RestLine mid new None
    → NextEntry (passed_of was) (left_of was) None (passed_of new) (left_of new)
at_end was is mid new s same (e, f) =
    let z : left_of is ≡ [] = subst (λ (x : Reader). left_of x ≡ []) same e in
    s.then None (passed_of new) (left_of new)
    (subst (λ (x : Reader). NextEntry (passed_of is) (left_of is) None (passed_of x) (left_of x)) (sym (f ∙ same))
    (subst (λ (t : List ℕ). NextEntry (passed_of is) t None (passed_of is) t) (sym z) ends))

-- behind the last line feed
pub at_last : (was is mid new : Reader) (o : Option Line) (r : Option Entry) (Post : Line → Entry → Type 0) → Still was is → Lacks 10 (left_of is) → mid ≡ is
    → RestLine mid new o → MatchOption o (r ≡ None) (λ l. IsSomeAnd r (Post l))
    → ((l : Line) (e : Entry) → Post l e → e ≡ record { line = l.number; vector = Err Unended })
    → NextEntry (passed_of was) (left_of was) r (passed_of new) (left_of new)
at_last was is mid new None r P s n same k e f = rw e (at_end was is mid new s same k)
at_last was is mid new (Some l) None P s n same k e f = absurd e
at_last was is mid new (Some l) (Some e) P s n same k p f = rw (f l e p) (at_rest was is mid new l s n same k)
