use Rattle.ev_book.proofs.Refitting.{fits_again}
use Rattle.ev_book.proofs.fitting.fits_again.Goals as goal

pub returns : goal.returns
returns c = fits_again
