-- `rows::put_long` meets its contract, and ends because n / 10 is less than n: the digits before the last, and then the last. Assumes nothing.
use Rattle.rows.proofs.+put_long.Given as goal

abbrev pub decreases-put_long : goal.decreases-put_long
decreases-put_long l = l.n
