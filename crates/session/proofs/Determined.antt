-- A session is determined by what it means, as its window is.
-- Assumes nothing.
use mathlib.Core.Path.{◌≡◌, ap}
use Rattle.rules.specs.Session as R
use Rattle.window.proofs.Determined as Windows
use Rattle.session.specs.declared.Session.{Session}
use Rattle.session.specs.View.{view_session, Held}

pub determined : (s t : Session) → Held s → Held t → view_session s ≡ view_session t → s ≡ t
unfolding view_session
determined s t h k e =
    let window : s.window ≡ t.window = Windows.determined s.window t.window h.window k.window (ap (λ (x : R.Session). x.window) e) in
    λ i. record { window = window i; client = (e i).client; started = (e i).started }
