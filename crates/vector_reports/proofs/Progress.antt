-- A report that is being made, entry by entry.
use Rattle.std.proofs.Common.{◌≡◌, ℕ, List, [], ◌∷◌, ◌++◌, length, Some, None, Ok, Err, Result, sym, refl, ap, ◌∙◌, subst, append_assoc}
use Rattle.vector_files.specs.Entries.{NextEntry}
use Rattle.vector_files.specs.declared.entry.Entry.{Entry}
use Rattle.vector_reports.specs.Reports.{Says}
use Rattle.vector_files.specs.Records.{Examined, Found, none_counted, counted, record_line, tally_line}
use Rattle.vector_reports.specs.Reports.{ends, next, Report, FileReport}
use Rattle.vector_files.specs.declared.check.Report as found
use Rattle.vector_files.specs.declared.record.Record.{Record}
use Rattle.vector_files.specs.declared.vector.Fault.{Fault}
use Rattle.vector_files.specs.declared.vector.Vector.{Vector}
use Rattle.vector_files.specs.declared.tally.Tally.{Tally}

-- what is found of an entry is what is said of it
pub said : {e : Entry} {old new : List ℕ} {r : Record} → Examined e old new r → Says (length old) e.vector r.name.now r.finding
said {e} {old} {new} {r} x = by e.vector r.finding x.found
  where
    by : (v : Result Vector Fault) (f : Result found.Report Fault) → Found v old new r.name.now f → Says (length old) v r.name.now f
    by (Err k) f (a, b, _) = (a, b)
    by (Ok v) (Ok p) (n, (bytes, m, front, q)) = (n, (bytes, m, front.fits, q))
    by (Ok v) (Err k) (n, (p, _)) = (n, p)

-- this text and whatever is still to be reported are the report on the file
pub record Reported (room : ℕ) (file so_far : List ℕ) (passed : ℕ) (left : List ℕ) (t : Tally) : Type 0 where
  pub then : (lines : List ℕ) (end : Tally) → Report room passed left t lines end → FileReport room file (so_far ++ lines) end

pub begin : (room : ℕ) (file : List ℕ) → Reported room file [] 0 file none_counted
begin room file = record { then = λ lines end r. r }

-- the same under other names
pub begun : {room : ℕ} {file so_far left : List ℕ} {passed : ℕ} {t : Tally} → so_far ≡ [] → passed ≡ 0 → left ≡ file → t ≡ none_counted → Reported room file so_far passed left t
begun {room} {file} {so_far} {left} {passed} {t} a b c d =
    subst (λ (x : List ℕ). Reported room file x passed left t) (sym a)
    (subst (λ (x : ℕ). Reported room file [] x left t) (sym b)
    (subst (λ (x : List ℕ). Reported room file [] 0 x t) (sym c)
    (subst (λ (x : Tally). Reported room file [] 0 file x) (sym d) (begin room file))))

-- a record is what is to come first
to_come : {room passed later : ℕ} {text left : List ℕ} {t : Tally} (e : Entry) (r : Record) → NextEntry passed text (Some e) later left → r.line ≡ e.line
    → Says room e.vector r.name.now r.finding → (lines : List ℕ) (end : Tally) → Report room later left (counted t r.finding) lines end
    → Report room passed text t (record_line r ++ lines) end
to_come e r n l s lines end p = record {
  records = r ∷ p.records;
  recorded = next n l s p.recorded;
  tallied = p.tallied;
  written = ap (λ (x : List ℕ). record_line r ++ x) p.written ∙ sym (append_assoc (record_line r) _ (tally_line end));
}

pub reported : {room passed later size : ℕ} {file so_far longer text left : List ℕ} {t u : Tally} (e : Entry) (r : Record) → Reported room file so_far passed text t
    → NextEntry passed text (Some e) later left → size ≡ room → r.line ≡ e.line → Says size e.vector r.name.now r.finding → u ≡ counted t r.finding
    → longer ≡ so_far ++ record_line r → Reported room file longer later left u
reported {room} {passed} {later} {size} {file} {so_far} {longer} {text} {left} {t} {u} e r p n full l s same grown =
    let says = subst (λ (k : ℕ). Says k e.vector r.name.now r.finding) full s in
    record {
      then = λ lines end q.
          subst (λ (x : List ℕ). FileReport room file x end) (sym (ap (λ (x : List ℕ). x ++ lines) grown ∙ append_assoc so_far (record_line r) lines))
          (p.then (record_line r ++ lines) end (to_come e r n l says lines end (subst (λ (x : Tally). Report room later left x lines end) same q)));
    }

-- at the end only the tally is left
pub finished : {room passed later : ℕ} {file so_far longer text left : List ℕ} {t : Tally} → Reported room file so_far passed text t
    → NextEntry passed text None later left → longer ≡ so_far ++ tally_line t → FileReport room file longer t
finished {room} {passed} {later} {file} {so_far} {longer} {text} {left} {t} p n grown =
    subst (λ (x : List ℕ). FileReport room file x t) (sym grown)
    (p.then (tally_line t) t (record { records = []; recorded = ends n; tallied = refl; written = refl }))
