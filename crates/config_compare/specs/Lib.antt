pub mod MarkedClusters
