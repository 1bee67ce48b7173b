pub mod HeardEvents
