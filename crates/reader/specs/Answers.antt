-- What the code's answer means.
use Rattle.std.specs.Prelude.{◌≡◌, ℕ, Result, Ok, Err}
use Rattle.refusals.specs.Reasons.{number}
use Rattle.refusals.specs.declared.reasons.Refusal.{Refusal}
use Rattle.report.specs.Rows.{Place}
use Rattle.settlement.specs.Shapes.{Terms}
use Rattle.settlement.specs.Result.{blank_terms}
use Rattle.terms.specs.Terms.{terms_of}
use Rattle.reader.specs.declared.reading.Reading.{Reading}

-- refusal number (0: read) and record, the terms, how many held rows, entries and unmapped rows there are
pub record Answer : Type 0 where
  pub refusal : ℕ
  pub place : ℕ
  pub terms : Terms Place
  pub held : ℕ
  pub entries : ℕ
  pub unmapped : ℕ

-- a reading has its own, a refusal blank terms and zero counts
abbrev pub answer_of : Result Reading Refusal → Answer
answer_of (Ok r) = record { refusal = 0; place = 0; terms = terms_of r.terms; held = r.held; entries = r.entries; unmapped = r.unmapped }
answer_of (Err f) = record { refusal = number f.reason; place = f.record; terms = blank_terms; held = 0; entries = 0; unmapped = 0 }

-- a refusal: its number and record, blank terms, zero counts
pub record Refused (number place : ℕ) (a : Answer) : Type 0 where
  pub refusal : a.refusal ≡ number
  pub place' : a.place ≡ place
  pub terms : a.terms ≡ blank_terms
  pub held : a.held ≡ 0
  pub entries : a.entries ≡ 0
  pub unmapped : a.unmapped ≡ 0
