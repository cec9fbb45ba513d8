pub mod FilmSamples
