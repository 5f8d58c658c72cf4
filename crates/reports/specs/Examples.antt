-- Two texts, none, and streams of which nothing is said: computed. Assumes nothing.
use Rattle.std.specs.Prelude.{◌≡◌, refl, []}
use Rattle.text.specs.Decimal.{decimal, digits, is_digit, may_grow, read_on, read_number}
use Rattle.text.specs.Line.{strip, prepend, split_line}
use Rattle.text.specs.Bench.{bytes, outcome_of}
use Rattle.rows.specs.Rows.{item}
use Rattle.reporting.specs.Reporting.{refusing, of_text}
use Rattle.reported.specs.Report.{report_of}
use Rattle.reports.specs.Reports.{read_size, read_sizes, total, reports_on, printed}

pub shown : (printed (bytes "2/14/3/aag 1 0 1 0 0/aag") ≡ bytes "refused 4/refused 2/")
    × (printed (bytes "0/") ≡ [])
    × (printed (bytes "2/14/4/aag 1 0 1 0 0/aag") ≡ [])
    × (printed (bytes "2/14/2/aag 1 0 1 0 0/aag") ≡ [])
    × (printed (bytes "2/14/aag 1 0 1 0 0/aag") ≡ [])
unfolding bytes outcome_of decimal digits is_digit may_grow read_on read_number strip prepend split_line item refusing of_text report_of read_size read_sizes total reports_on printed
shown = (refl, refl, refl, refl, refl)
